pub mod TableLaws
pub mod MeanLaws
pub mod OneAnswer
