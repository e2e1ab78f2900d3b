pub mod BlockLaws
pub mod TailLaws
pub mod MarkLaws
pub mod OneAnswer
