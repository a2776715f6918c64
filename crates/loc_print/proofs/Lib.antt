pub mod ReadingLaws
pub mod WindowLaws
pub mod ShownLaws
pub mod WholeLaws
