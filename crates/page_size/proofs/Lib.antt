pub mod Counts
pub mod Front
pub mod Ranks
pub mod ReadCount
