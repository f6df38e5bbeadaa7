pub mod Step
pub mod Report
pub mod Incrementing
pub mod Claims
