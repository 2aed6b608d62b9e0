pub mod Back
pub mod InARow
pub mod Pieces
pub mod ReadBack
pub mod Spelled
pub mod Wide
pub mod WrittenBack
pub mod OneRate
