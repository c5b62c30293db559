pub mod Times
pub mod Chain
pub mod Lists
pub mod Falling
pub mod Ranks
