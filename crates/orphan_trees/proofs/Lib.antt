pub mod Both
pub mod Lists
pub mod Marking
pub mod Rule
pub mod Surveyed
pub mod Sweeping
pub mod Walks
