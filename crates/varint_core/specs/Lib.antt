pub mod Shortest
pub mod Varint
