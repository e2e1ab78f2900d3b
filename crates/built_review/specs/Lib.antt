pub mod Review
pub mod Told
pub mod Apart
