pub mod MonitorWords
pub mod Claims
