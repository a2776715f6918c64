pub mod WindowLaws
pub mod WalkLaws
pub mod ReadLaws
pub mod OwnLaws
