pub mod Order
pub mod Merging
pub mod Keys
