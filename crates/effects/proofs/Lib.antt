pub mod Writes
pub mod Asked
pub mod Flags
pub mod Told
