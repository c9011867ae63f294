pub mod Numbers
pub mod Entry
