pub mod Journal
pub mod History
pub mod Law
pub mod Sound
