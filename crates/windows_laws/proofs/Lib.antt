pub mod Tapered
pub mod UpperHalf
