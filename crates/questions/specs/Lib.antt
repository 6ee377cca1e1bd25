pub mod Ask
pub mod Case
pub mod Lines
