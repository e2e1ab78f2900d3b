pub mod Spans
pub mod Positions
pub mod Told
