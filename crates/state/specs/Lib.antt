pub mod Bits
pub mod Claims
pub mod Descriptor
pub mod State
