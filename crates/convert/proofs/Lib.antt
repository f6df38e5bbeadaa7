pub mod Buffer
pub mod Whole
pub mod Progress
