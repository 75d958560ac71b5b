-- Laws of writing the plan.
pub mod Passing
pub mod Going
pub mod Timed
pub mod Kept
pub mod Windows
pub mod Wanting
pub mod Writing
pub mod Aboard
pub mod Alone
pub mod Turn
pub mod Pinned
pub mod Settled
