pub mod Replay
pub mod Numbers
pub mod State
