pub mod Cell
pub mod Cover
pub mod Inside
pub mod Laws
pub mod Screen
pub mod Shape
pub mod Spelling
