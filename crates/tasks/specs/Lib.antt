pub mod Use
pub mod Order
pub mod View
pub mod Priorities
