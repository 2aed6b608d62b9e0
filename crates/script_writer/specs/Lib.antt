pub mod Encoded
pub mod Kinds
pub mod Written
