pub mod Context
pub mod Bytes
pub mod Renumbered
