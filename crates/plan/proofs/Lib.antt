pub mod Planning
pub mod Counting
pub mod Strides
pub mod Going
pub mod Lying
pub mod Filling
pub mod Claims
