pub mod KeptLaws
pub mod OneAnswer
