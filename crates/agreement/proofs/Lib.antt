pub mod AsDecision
