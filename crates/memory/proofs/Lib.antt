pub mod Copies
pub mod GoodBytes
pub mod Pairs
pub mod Groups
pub mod Stores
pub mod Touch
pub mod Verdicts
