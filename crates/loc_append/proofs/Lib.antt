pub mod AppendLaws
pub mod PlanLaws
pub mod RunLaws
