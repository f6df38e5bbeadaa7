pub mod Chosen
pub mod Effect
pub mod Stepping
pub mod Turn
pub mod Pass
