pub mod Copying
pub mod Turn
pub mod Whole
