-- Laws of what the comparison sees.
pub mod Six
pub mod Settled
