pub mod Extents
pub mod Scans
