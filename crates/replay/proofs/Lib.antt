pub mod Passes
pub mod Places
pub mod Progress
pub mod Whole
