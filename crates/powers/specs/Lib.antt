pub mod Placed
pub mod PowerCells
pub mod Power
pub mod Exp64
