pub mod Choice
pub mod Answer
pub mod Limits
pub mod Settings
pub mod Word
pub mod Reading
