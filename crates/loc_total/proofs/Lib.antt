pub mod SumLaws
pub mod WordLaws
pub mod SlotLaws
pub mod PlaceLaws
pub mod TotalLaws
pub mod Examples
