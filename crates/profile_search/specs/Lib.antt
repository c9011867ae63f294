pub mod Stored
pub mod Singles
