pub mod LineLaws
pub mod OneAnswer
