pub mod AlphabetLaws
pub mod LetterLaws
