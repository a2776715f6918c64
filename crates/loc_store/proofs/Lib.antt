pub mod PlanLaws
pub mod StoreLaws
pub mod RuleLaws
pub mod SettledLaws
pub mod CallLaws
