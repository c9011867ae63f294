pub mod Alphabet
pub mod Requirements
