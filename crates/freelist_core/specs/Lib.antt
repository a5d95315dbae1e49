pub mod Trunk
pub mod Free
