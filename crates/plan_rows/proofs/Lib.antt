-- What the readers' contracts settle.
pub mod Settled
pub mod Standing
pub mod Departed
pub mod Cuts
