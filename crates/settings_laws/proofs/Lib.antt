pub mod Again
pub mod Rates
pub mod Seconds
pub mod Attack
pub mod Lifetimes
