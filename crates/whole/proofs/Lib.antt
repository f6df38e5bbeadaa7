pub mod Bytes
pub mod Listing
pub mod Measure
pub mod Parts
pub mod Progress
pub mod Sound
pub mod Engines
pub mod Cases
