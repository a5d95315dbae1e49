pub mod Apart
pub mod Blocks
pub mod Marks
pub mod Places
pub mod Ranges
pub mod Read
pub mod Spelled
