pub mod ByLength
pub mod CutLaws
pub mod LocalLaws
pub mod Lexing
