pub mod Cut
pub mod Legal
pub mod Count
pub mod Claims
