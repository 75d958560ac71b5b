-- The clock is pinned to document 01's times, its laws, and that its contracts settle every result.
pub mod Pinned
pub mod Days
pub mod Writing
pub mod Settled
