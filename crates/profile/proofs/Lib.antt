pub mod TripleLaws
pub mod TraceLaws
pub mod RejectLaws
pub mod ProfileLaws
pub mod CycleLaws
pub mod RootLaws
pub mod Examples
