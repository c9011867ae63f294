pub mod SpliceLaws
pub mod WidthLaws
pub mod OutcomeLaws
pub mod Bounds
pub mod Meaning
pub mod Examples
