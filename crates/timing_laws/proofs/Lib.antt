pub mod Starts
pub mod Moves
pub mod Due
pub mod Lanes
