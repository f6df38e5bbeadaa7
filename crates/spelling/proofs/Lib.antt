pub mod Listed
pub mod Engines
pub mod Midst
pub mod Claims
