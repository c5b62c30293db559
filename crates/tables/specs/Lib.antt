pub mod State
pub mod Running
pub mod Moves
pub mod View
pub mod Kept
pub mod Sound
