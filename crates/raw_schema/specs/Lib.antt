pub mod Bounds
pub mod Rows
pub mod Schema
pub mod Spelling
