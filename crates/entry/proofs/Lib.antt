pub mod FrameBytes
pub mod Ways
