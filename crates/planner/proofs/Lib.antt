-- Planning, proved: which calls are admitted, the answer and the slices, both sides of each line.
pub mod Admitting
pub mod Answered
pub mod ByNumber
pub mod Pinned
pub mod Settled
