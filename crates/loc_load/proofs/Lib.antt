pub mod XorLaws
pub mod StepLaws
pub mod LoadLaws
pub mod FormLaws
pub mod RequestLaws
pub mod ListingLaws
pub mod Examples
