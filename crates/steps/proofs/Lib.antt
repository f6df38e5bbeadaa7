pub mod Advances
pub mod Bursts
pub mod Incrementing
pub mod Keeps
pub mod Stored
pub mod Taken
