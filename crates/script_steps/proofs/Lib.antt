pub mod Together
pub mod Exact
