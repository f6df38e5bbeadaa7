pub mod Sets
pub mod Digits
pub mod Split
pub mod Puts
pub mod Entries
pub mod Numbers
pub mod Claims
