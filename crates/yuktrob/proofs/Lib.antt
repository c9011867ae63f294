pub mod Settled
pub mod Room
pub mod Pair
