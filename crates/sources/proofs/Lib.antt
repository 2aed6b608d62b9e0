pub mod Flags
pub mod Nth
