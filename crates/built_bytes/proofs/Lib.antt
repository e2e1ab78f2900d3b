pub mod RestLaws
pub mod OneAnswer
