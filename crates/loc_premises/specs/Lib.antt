pub mod Replies
pub mod Lawful
pub mod Broken
pub mod Listed
pub mod Located
pub mod Composed
pub mod Durable
