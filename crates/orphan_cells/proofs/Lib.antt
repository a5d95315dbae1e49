pub mod Adding
pub mod Limits
