pub mod Scope
pub mod Values
pub mod Laws
pub mod Found
