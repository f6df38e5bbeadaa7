pub mod Lines
pub mod Older
pub mod Former
pub mod Cases
