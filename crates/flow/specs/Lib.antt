pub mod Flow
pub mod Input
