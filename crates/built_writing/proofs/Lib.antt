pub mod SpellLaws
pub mod WeighLaws
pub mod TextLaws
pub mod NumberLaws
pub mod OneAnswer
