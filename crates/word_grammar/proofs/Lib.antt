pub mod Tests
pub mod Starts
pub mod Exact
pub mod Join
pub mod Forms
pub mod Verdicts
