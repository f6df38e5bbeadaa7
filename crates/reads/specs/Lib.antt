pub mod Claims
pub mod Read
