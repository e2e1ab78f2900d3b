pub mod Writing
pub mod Told
pub mod WroteText
pub mod Measured
