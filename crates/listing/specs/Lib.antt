pub mod Claims
pub mod Line
pub mod Word
