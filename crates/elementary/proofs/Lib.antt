pub mod Rungs
pub mod LogCells
pub mod Tested
pub mod Squares
pub mod RootNearest
