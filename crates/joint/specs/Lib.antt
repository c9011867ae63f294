pub mod Joint
pub mod Contract
pub mod Meaning
pub mod Inner
