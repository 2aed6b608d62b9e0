pub mod State
pub mod Make
pub mod Tallies
