pub mod Book
pub mod History
pub mod Durable
