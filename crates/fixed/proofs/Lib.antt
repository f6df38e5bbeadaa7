pub mod GoodSides
pub mod Leaping
