pub mod Decided
pub mod Calls
