pub mod CharacterLaws
pub mod PassLaws
pub mod AnswerLaws
pub mod NumberLaws
pub mod OneAnswer
