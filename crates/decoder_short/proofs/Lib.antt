pub mod ShortLaws
pub mod OneAnswer
