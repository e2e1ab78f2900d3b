pub mod Meaning
pub mod Deciding
pub mod Cases
pub mod Calling
pub mod CallLaws
