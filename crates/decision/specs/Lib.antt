pub mod Verdict
pub mod Lends
pub mod Contract
pub mod Inner
