pub mod LogRungs
pub mod LogExact
pub mod LogRises
pub mod RootRises
pub mod RootClosest
pub mod PowerRises
pub mod PowerValues
