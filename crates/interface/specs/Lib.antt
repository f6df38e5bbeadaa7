pub mod Planning
pub mod Judging
pub mod Calls
pub mod Moving
pub mod Clocks
pub mod Claims
