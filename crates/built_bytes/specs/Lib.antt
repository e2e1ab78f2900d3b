pub mod Turns
pub mod Rests
