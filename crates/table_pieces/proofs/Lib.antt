pub mod LetterLaws
pub mod DigitLaws
pub mod OneAnswer
