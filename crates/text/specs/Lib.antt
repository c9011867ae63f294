pub mod Text
pub mod State
