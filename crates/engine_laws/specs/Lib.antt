pub mod Acts
pub mod Lawful
