pub mod Header
pub mod Zeros
pub mod Readable
pub mod Counting
pub mod Telling
