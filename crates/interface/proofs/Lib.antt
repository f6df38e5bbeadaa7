pub mod CallResults
pub mod Judges
pub mod MovedWords
pub mod Claims
