pub mod Lexing
pub mod Cuts
