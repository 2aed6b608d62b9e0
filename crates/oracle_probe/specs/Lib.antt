pub mod Counts
pub mod Frames
pub mod Numbers
pub mod Records
