pub mod SetLaws
pub mod ExpandLaws
pub mod WalkLaws
pub mod SearchLaws
pub mod BestLaws
