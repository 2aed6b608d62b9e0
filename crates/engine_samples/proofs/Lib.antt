pub mod Tries
pub mod Untouched
pub mod Waits
pub mod NothingDue
pub mod Delivered
