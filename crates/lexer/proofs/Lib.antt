pub mod KindLaws
pub mod LineLaws
pub mod FoundLaws
pub mod TokenLaws
pub mod UntilLaws
pub mod WholeLaws
pub mod NumberLaws
mod StepLaws
pub mod OneAnswer
