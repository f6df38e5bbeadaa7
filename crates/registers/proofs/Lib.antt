pub mod Claims
pub mod Writes
