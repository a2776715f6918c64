pub mod OrderLaws
pub mod MergeLaws
pub mod HalfLaws
pub mod KeyLaws
