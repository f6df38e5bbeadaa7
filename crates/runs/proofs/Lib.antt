pub mod Acceptable
pub mod Entries
pub mod Walks
