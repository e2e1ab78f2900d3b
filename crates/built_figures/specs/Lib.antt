pub mod Figures
pub mod Told
pub mod Counting
