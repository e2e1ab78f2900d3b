pub mod KindLaws
pub mod OneAnswer
