pub mod View
pub mod Listing
pub mod Sound
