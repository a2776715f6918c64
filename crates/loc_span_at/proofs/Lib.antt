pub mod FindLaws
pub mod WindowLaws
pub mod CallLaws
