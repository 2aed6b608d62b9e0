pub mod Gains
pub mod Bins
pub mod Logs
pub mod Opened
pub mod Search
pub mod Walk
