pub mod Encodings
pub mod Pieces
pub mod Escapes
pub mod Bodies
pub mod Marks
pub mod Decoding
pub mod Told
pub mod Answered
