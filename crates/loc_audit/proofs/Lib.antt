pub mod StepLaws
pub mod RowPassLaws
pub mod PassLaws
pub mod AuditLaws
pub mod Examples
