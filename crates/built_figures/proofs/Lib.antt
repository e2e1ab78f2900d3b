pub mod AddLaws
pub mod FigureLaws
pub mod BodyLaws
pub mod WalkLaws
pub mod AnswerLaws
pub mod NumberLaws
pub mod OneAnswer
