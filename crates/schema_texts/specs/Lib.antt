pub mod Known
pub mod Readings
