pub mod Salvaged
pub mod Fates
pub mod Bounds
pub mod Laws
pub mod Steps
