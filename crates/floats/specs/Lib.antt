pub mod Names
pub mod Whole
pub mod Remainder
pub mod Convert
pub mod Choose
pub mod Word
pub mod Real
