pub mod Shape
pub mod Seen
pub mod Keys
pub mod Entries
pub mod Names
