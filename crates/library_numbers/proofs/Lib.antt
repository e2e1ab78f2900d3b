pub mod PartLaws
pub mod ToldLaws
pub mod OneAnswer
