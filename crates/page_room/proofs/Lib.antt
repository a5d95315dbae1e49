pub mod Sizes
pub mod Pages
