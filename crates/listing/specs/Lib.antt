pub mod Printed
pub mod Listed
pub mod Ended
pub mod Lines
pub mod Turns
pub mod Last
pub mod Reaching
pub mod Saying
