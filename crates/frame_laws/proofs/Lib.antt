pub mod Background
pub mod Strengths
pub mod Places
pub mod Shapes
pub mod Windowed
pub mod Newborn
