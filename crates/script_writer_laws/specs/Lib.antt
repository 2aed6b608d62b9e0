pub mod Events
pub mod InARow
pub mod Wide
