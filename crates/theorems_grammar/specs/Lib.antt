pub mod Grammar
pub mod Scalars
pub mod Prose
pub mod Strings
pub mod Demand3
pub mod ScalarTexts
