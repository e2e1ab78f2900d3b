pub mod RunsLaws
pub mod LookLaws
pub mod TokenLaws
pub mod OneAnswer
