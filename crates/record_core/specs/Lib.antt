pub mod Apart
pub mod Faults
pub mod Record
pub mod Shortest
pub mod Spelling
pub mod Tally
