pub mod Blank
pub mod Harmonic
pub mod Pass
pub mod Swept
