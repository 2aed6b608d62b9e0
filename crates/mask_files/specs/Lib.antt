pub mod Records
pub mod Masks
pub mod Walk
