pub mod Rung
pub mod Log2
pub mod Sqrt
pub mod LogCells
