pub mod PartLaws
pub mod MeetLaws
pub mod ReadLaws
