pub mod Rows
pub mod Trial
pub mod Laws
