pub mod Decoded
pub mod Parsed
pub mod Played
pub mod Printed
pub mod Encoded
pub mod Sample
