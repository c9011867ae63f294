pub mod AcceptingLaws
pub mod SearchLaws
