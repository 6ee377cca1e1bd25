pub mod Bytes
pub mod Volume
pub mod Spelling
pub mod Volumes
