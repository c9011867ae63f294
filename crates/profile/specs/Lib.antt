pub mod Traces
pub mod Profiles
pub mod Cycle
