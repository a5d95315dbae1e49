pub mod Fates
pub mod Chosen
pub mod Maps
pub mod Laws
