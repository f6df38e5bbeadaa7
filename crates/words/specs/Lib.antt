pub mod EngineWords
pub mod Claims
