pub mod TextLaws
pub mod NamesLaws
pub mod Examples
