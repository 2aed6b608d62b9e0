pub mod Config
pub mod Room
pub mod Sizes
