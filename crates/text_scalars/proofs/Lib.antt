pub mod FieldLaws
pub mod EncodeLaws
pub mod ReadLaws
pub mod CutLaws
pub mod OneAnswer
