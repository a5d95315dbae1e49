pub mod Bounds
pub mod Orphaned
pub mod Steps
