pub mod Sums
pub mod Records
pub mod Trees
pub mod Labels
pub mod Keys
pub mod Entries
pub mod Tables
pub mod Loads
