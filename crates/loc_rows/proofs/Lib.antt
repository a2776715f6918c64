pub mod ReaderLaws
pub mod Examples
