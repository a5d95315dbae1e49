pub mod Database
pub mod Header
pub mod Stored
pub mod Freelist
pub mod Tables
pub mod Indexes
pub mod Spells
pub mod Laws
