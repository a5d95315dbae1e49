pub mod Answers
pub mod Outcome
pub mod Recovery
pub mod Run
pub mod Schema
pub mod Tried
pub mod Wanted
