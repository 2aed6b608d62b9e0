pub mod Finite
pub mod Files
