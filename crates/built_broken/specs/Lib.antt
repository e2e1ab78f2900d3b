pub mod Broken
pub mod Told
pub mod Walk
