pub mod Lists
pub mod Small
pub mod Sorting
pub mod Spelled
pub mod Tree
pub mod Turns
