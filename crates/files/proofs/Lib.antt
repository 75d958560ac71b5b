-- What the contract on endings settles.
pub mod Settled
