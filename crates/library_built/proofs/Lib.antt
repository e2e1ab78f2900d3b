pub mod ToldLaws
pub mod OneAnswer
