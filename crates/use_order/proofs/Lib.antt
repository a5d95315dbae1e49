pub mod Apart
pub mod Holding
pub mod Limits
pub mod Matched
pub mod Ordered
pub mod Reading
