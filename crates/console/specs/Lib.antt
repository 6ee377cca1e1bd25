pub mod Answer
pub mod Begin
pub mod Case
pub mod Grammar
pub mod Parts
pub mod Reply
