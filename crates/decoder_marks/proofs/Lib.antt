pub mod OpenLaws
pub mod OneAnswer
