pub mod Order
pub mod Spelling
pub mod Bodies
pub mod BackLaws
pub mod ShortestLaws
