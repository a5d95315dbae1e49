pub mod Holding
pub mod Ordered
pub mod Parts
pub mod Reading
pub mod Turning
pub mod Within
