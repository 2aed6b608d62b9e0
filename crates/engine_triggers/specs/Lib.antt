pub mod Triggers
pub mod Firing
