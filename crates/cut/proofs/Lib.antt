pub mod Reach
pub mod Cutting
pub mod Shortest
pub mod Count
pub mod Claims
