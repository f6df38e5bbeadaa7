pub mod Lines
pub mod Grown
pub mod Claims
pub mod Former
pub mod Cases
