pub mod Gliding
pub mod Incrementing
pub mod Moved
