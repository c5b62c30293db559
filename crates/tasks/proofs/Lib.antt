pub mod Numbers
pub mod Links
pub mod Others
pub mod Changes
pub mod Walk
pub mod Priorities
pub mod Moves
