pub mod Mark
pub mod Reading
pub mod Follows
pub mod Starts
pub mod Names
pub mod Claims
pub mod Cases
