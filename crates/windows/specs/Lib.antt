pub mod Flat
pub mod Lookup
pub mod Table
