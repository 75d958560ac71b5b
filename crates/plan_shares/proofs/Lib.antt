-- Laws of running sums.
pub mod Running
pub mod Block
pub mod Held
pub mod Settled
