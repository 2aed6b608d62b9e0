pub mod Part
pub mod Taken
pub mod Places
pub mod Script
pub mod Steps
pub mod Whole
pub mod Beginnings
