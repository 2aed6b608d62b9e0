pub mod Highest
pub mod Cloud
pub mod Partials
pub mod Octave
pub mod Register
