pub mod Left
pub mod Whole
