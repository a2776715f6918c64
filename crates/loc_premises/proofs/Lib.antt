pub mod Examples
pub mod Listed
pub mod Located
pub mod Composed
pub mod Durable
