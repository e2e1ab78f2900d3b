pub mod AtOnceLaws
pub mod OneAnswer
