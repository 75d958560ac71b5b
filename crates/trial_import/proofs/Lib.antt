-- What the call for the comparison settles.
pub mod Settled
