pub mod Case
pub mod Format
pub mod Record
pub mod Steps
pub mod Trailer
pub mod Words
pub mod Zeros
