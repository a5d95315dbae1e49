pub mod Digits
pub mod Asked
