pub mod ReadableLaws
pub mod SoundLaws
pub mod ErrorLaws
pub mod FaultLaws
pub mod TurnLaws
pub mod LookLaws
pub mod NumberLaws
pub mod OneAnswer
