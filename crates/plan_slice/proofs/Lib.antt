-- Laws of the plan slice.
pub mod Written
pub mod ReadBack
pub mod Pinned
pub mod Settled
