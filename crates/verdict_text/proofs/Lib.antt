pub mod Showing
pub mod Lengths
