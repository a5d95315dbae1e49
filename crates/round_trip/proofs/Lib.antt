pub mod Lifting
pub mod Rowless
pub mod Sound
pub mod Values
pub mod Table
pub mod Back
pub mod Found
