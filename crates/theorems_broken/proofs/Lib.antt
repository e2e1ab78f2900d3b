pub mod DecodedLaws
pub mod ReachLaws
pub mod Theorems
