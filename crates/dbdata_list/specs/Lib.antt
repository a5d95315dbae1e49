pub mod Reads
pub mod Faults
pub mod Text
pub mod Listing
