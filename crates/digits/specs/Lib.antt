pub mod Claims
pub mod Decimal
pub mod Puts
pub mod Tables
