pub mod ErrorNumbers
pub mod Words
pub mod Told
