-- What reading a field comes to.
pub mod Digits
pub mod Onward
pub mod Tail
pub mod Bounds
pub mod Joined
pub mod Seam
pub mod Words
pub mod Written
pub mod Zeros
pub mod Settled
pub mod Pinned
