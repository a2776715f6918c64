pub mod Areas
pub mod Plans
