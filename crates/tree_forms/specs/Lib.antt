pub mod Laws
pub mod Node
pub mod Payload
pub mod Tree
