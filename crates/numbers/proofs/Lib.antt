-- Laws of numbers as bytes.
pub mod Put
pub mod Settled
pub mod Bytes
pub mod Pinned
