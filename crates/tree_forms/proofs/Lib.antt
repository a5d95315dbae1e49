pub mod Trees
pub mod Saying
