pub mod Raise
pub mod Bits
pub mod Tables
pub mod Claims
pub mod Cases
