pub mod Substitution
pub mod Contract
pub mod Inner
pub mod Meaning
