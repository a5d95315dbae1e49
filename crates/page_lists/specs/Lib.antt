pub mod Lists
pub mod Table
pub mod Rings
pub mod Stored
