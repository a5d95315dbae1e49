mod Touched
mod Measures
mod Naming
mod Moments
mod Room
mod Ways
mod Reading
mod Roots
mod Whole
pub mod Rows
