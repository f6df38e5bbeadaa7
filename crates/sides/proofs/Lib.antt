pub mod Answers
pub mod Claims
pub mod Moves
pub mod Overwritten
pub mod Parts
pub mod Places
pub mod Ranges
pub mod Words
