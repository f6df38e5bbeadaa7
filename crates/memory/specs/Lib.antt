pub mod Burst
pub mod Good
pub mod Interval
pub mod Verdict
pub mod Windows
