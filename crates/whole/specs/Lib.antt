pub mod Listing
pub mod Sound
pub mod Engines
pub mod Cases
