pub mod Find
pub mod Windows
