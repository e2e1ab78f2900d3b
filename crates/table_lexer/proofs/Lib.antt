pub mod TagLaws
pub mod OneAnswer
