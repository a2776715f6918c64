pub mod Xorshift
pub mod Load
pub mod Request
