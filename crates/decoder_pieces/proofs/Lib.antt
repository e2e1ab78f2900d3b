pub mod HexLaws
pub mod FrontLaws
pub mod EscapeAtLaws
pub mod StepLaws
pub mod OneAnswer
