pub mod Names
pub mod Small
pub mod Texts
pub mod Rows
pub mod Lost
pub mod Few
pub mod Laws
