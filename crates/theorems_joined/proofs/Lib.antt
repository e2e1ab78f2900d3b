pub mod ListLaws
pub mod Seam
pub mod Joined
pub mod Needed
pub mod Corollaries
