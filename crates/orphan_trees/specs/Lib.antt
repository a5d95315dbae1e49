pub mod Laws
pub mod Orphans
pub mod Passes
