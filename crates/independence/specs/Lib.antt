pub mod Footprint
pub mod Independence
pub mod Worked
