pub mod Claims
pub mod Start
pub mod WellFormed
