pub mod Counted
pub mod Rows
