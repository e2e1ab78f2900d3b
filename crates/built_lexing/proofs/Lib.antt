pub mod StepLaws
pub mod LeapLaws
pub mod CountLaws
pub mod PartLaws
pub mod WholeLaws
pub mod FillLaws
pub mod OneAnswer
