pub mod Advance
pub mod New
