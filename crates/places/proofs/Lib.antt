pub mod Claims
pub mod Groups
pub mod Holders
pub mod Lows
pub mod Words
pub mod Worked
