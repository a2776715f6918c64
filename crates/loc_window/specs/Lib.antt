pub mod Window
pub mod Planned
