pub mod Early
pub mod EntryLaws
pub mod TruthFit
pub mod VerdictFit
pub mod JointFit
pub mod EditFit
pub mod Apart
