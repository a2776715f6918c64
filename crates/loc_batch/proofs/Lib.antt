pub mod EntryLaws
pub mod BatchLaws
pub mod StageLaws
