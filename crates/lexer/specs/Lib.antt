pub mod Lines
pub mod Table
pub mod Tokens
pub mod Steps
pub mod Whole
pub mod Told
pub mod Loops
