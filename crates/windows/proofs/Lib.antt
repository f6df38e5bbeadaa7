pub mod Copies
pub mod FirstWindows
pub mod Looks
