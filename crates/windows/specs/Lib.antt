pub mod Opening
pub mod Attenuation
