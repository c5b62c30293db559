pub mod Times
pub mod Paths
pub mod RowLinks
pub mod Ranks
pub mod Lists
pub mod Falling
pub mod Walks
