pub mod Masks
pub mod Write
