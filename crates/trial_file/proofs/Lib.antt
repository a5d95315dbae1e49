pub mod Text
pub mod Mixed
pub mod Fit
pub mod Lengths
pub mod Pages
pub mod Small
pub mod Steps
