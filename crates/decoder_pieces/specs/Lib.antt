pub mod Steps
pub mod Walks
pub mod Hexes
pub mod GoodEscapes
pub mod Engines
pub mod EngineLaws
