pub mod Room
pub mod Stored
pub mod Told
pub mod Laws
