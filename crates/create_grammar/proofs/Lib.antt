pub mod Turns
pub mod Steps
pub mod Many
pub mod Told
pub mod ClassTests
pub mod Cuts
pub mod Keywords
