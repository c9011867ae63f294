pub mod Questions
pub mod Construction
pub mod Contract
pub mod Inner
