pub mod ScanLaws
pub mod OneAnswer
