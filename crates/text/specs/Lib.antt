pub mod CheckMeans
pub mod Told
pub mod LengthTells
