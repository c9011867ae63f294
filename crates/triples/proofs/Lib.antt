pub mod ByteLaws
pub mod CellLaws
pub mod JoinLaws
pub mod RowLaws
