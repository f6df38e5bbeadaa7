pub mod Monitors
pub mod Claims
