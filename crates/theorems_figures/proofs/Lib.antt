pub mod TotalLaws
pub mod CallLaws
