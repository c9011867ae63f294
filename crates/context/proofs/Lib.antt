pub mod Located
pub mod Renumber
pub mod Exchanged
pub mod TableLaws
pub mod ByteLaws
pub mod ReadLaws
pub mod Examples
