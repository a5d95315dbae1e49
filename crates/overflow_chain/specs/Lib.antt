pub mod Chain
pub mod Turn
pub mod Laws
