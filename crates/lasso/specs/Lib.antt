pub mod Lasso
pub mod Refusal
pub mod Truth
pub mod Contract
pub mod Inner
