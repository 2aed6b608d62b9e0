pub mod FullScan
pub mod Prepared
pub mod Shut
pub mod ReadBack
pub mod Frames
pub mod WriteBack
pub mod Files
