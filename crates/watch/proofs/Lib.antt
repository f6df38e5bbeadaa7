pub mod Clocking
