pub mod PowerLike
pub mod Edges
pub mod PlacedAt
pub mod PlacedRises
pub mod PowerTable
pub mod Exp64Rises
