pub mod AnswerLaws
pub mod PutLaws
