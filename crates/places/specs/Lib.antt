pub mod Places
pub mod Locate
pub mod Claims
pub mod Worked
