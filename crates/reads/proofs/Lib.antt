pub mod Claims
pub mod Refused
