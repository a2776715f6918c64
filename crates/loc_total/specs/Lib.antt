pub mod Slots
pub mod Total
