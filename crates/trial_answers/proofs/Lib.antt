-- Laws of an answer as six numbers.
pub mod Six
pub mod Settled
