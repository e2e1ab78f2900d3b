pub mod Values
pub mod Depth
pub mod Answers
pub mod Told
pub mod Checkers
