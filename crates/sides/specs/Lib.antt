pub mod Claims
pub mod Sides
