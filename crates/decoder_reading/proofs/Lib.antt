pub mod CountLaws
pub mod OneAnswer
