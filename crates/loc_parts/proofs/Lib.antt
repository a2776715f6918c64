pub mod FaultLaws
pub mod PairLaws
pub mod WalkLaws
pub mod DistinctLaws
pub mod PutLaws
