pub mod ReplyText
pub mod Grammar
pub mod Lines
pub mod Words
