pub mod Bare
pub mod Gaining
pub mod Goes
pub mod Items
pub mod Once
pub mod Valid
pub mod Within
