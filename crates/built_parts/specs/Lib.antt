pub mod Checking
pub mod Feeding
pub mod Told
pub mod Passing
