pub mod Utf8
pub mod Encode
pub mod Utf8Read
