pub mod Causes
pub mod Ended
pub mod Lists
pub mod Options
pub mod Outcomes
pub mod SchemaLines
pub mod Trying
