pub mod FaultLaws
pub mod AnswerLaws
pub mod MendLaws
pub mod OneAnswer
