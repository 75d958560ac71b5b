-- Laws of the import, and what it returns.
pub mod Days
pub mod Told
pub mod Placed
pub mod Finished
pub mod Ended
pub mod Refusals
pub mod Small
pub mod Promised
pub mod Settled
pub mod Pinned
pub mod NamesTold
pub mod WrittenNamed
