pub mod Sample
pub mod Waiting
