pub mod TurnLaws
pub mod PlanLaws
pub mod Agreement
pub mod OneAnswer
