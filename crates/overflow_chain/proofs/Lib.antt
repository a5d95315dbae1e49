pub mod Turns
pub mod Longest
pub mod Reading
pub mod Taking
