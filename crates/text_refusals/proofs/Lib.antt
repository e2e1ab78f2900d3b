pub mod OneAnswer
mod ToldLaws
