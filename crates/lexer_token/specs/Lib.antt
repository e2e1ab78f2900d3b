pub mod KindNumbers
pub mod Descriptions
pub mod Encodings
pub mod Records
pub mod Told
