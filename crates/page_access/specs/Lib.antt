pub mod Cache
pub mod CacheStored
pub mod Files
pub mod Memory
pub mod Outside
pub mod Pages
