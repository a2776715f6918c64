pub mod FieldLaws
pub mod LineBack
pub mod LinesBack
pub mod ListLaws
pub mod PrefixLaws
pub mod OnlyPrinted
pub mod ImportLaws
pub mod Examples
