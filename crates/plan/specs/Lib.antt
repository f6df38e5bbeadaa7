pub mod Plan
pub mod Layout
pub mod Spelling
pub mod Claims
