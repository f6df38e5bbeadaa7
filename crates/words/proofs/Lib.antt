pub mod Same
pub mod Written
pub mod Engines
pub mod Claims
