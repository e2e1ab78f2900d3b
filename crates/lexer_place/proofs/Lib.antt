pub mod SpanLaws
pub mod PositionLaws
pub mod ColumnLaws
pub mod OneAnswer
