-- Laws of the desk's answer.
pub mod Given
pub mod Room
pub mod Pinned
pub mod Settled
