pub mod Origins
pub mod Over
pub mod ReadCount
