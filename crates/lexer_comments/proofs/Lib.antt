pub mod FrontLaws
pub mod OneAnswer
