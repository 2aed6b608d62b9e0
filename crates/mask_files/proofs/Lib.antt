pub mod Records
pub mod Passing
pub mod Steps
pub mod Logs
pub mod Moves
mod Passes
mod Placing
mod Ways
