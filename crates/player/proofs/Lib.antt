pub mod Decoding
pub mod Parsing
pub mod Encoding
pub mod Sessions
