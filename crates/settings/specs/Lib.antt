pub mod Settings
pub mod Envelope
pub mod Mending
pub mod ByNumber
