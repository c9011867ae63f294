pub mod Triples
pub mod Marks
pub mod Runs
