pub mod Mending
pub mod Told
pub mod Passes
