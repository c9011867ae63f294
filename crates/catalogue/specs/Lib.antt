pub mod Catalogue
pub mod Records
pub mod Faults
pub mod Location
pub mod Overlay
pub mod Contract
pub mod Inner
