pub mod Children
pub mod Levels
pub mod Counting
pub mod Accepted
pub mod Ordering
pub mod Turning
pub mod Walked
