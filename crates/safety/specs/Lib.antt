pub mod Safety
pub mod Closed
pub mod Contract
pub mod Inner
