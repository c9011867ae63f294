pub mod Lists
pub mod Bits
pub mod Bytes
pub mod Order
pub mod Search
pub mod Spread
pub mod Sets
pub mod Ask
