pub mod Conds
pub mod ByteTable
pub mod RunLaws
pub mod FirstLaws
pub mod TripleLaws
pub mod CountLaws
pub mod OneAnswer
