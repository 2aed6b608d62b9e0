pub mod Births
pub mod Birth
pub mod Arrival
pub mod Voices
