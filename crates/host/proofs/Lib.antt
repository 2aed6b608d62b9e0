pub mod Small
pub mod Telling
