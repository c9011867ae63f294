pub mod RangeLaws
pub mod LayoutLaws
pub mod BuildLaws
pub mod CheckLaws
pub mod Examples
