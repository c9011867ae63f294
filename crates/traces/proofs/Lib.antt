pub mod RankLaws
pub mod MarkLaws
pub mod NextLaws
pub mod LeastLaws
pub mod LimitLaws
