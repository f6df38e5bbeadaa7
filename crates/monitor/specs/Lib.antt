pub mod Clock
pub mod Rules
pub mod Flags
pub mod Monitor
pub mod Claims
pub mod Cases
