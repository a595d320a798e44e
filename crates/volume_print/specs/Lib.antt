pub mod Places
pub mod Spelling
pub mod Description
pub mod Finding
