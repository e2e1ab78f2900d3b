pub mod States
pub mod Filling
pub mod Leaps
pub mod Whole
pub mod Needs
