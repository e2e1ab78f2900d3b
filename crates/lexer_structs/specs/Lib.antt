pub mod TokenMemory
pub mod Eight
pub mod Turns
pub mod Agreement
