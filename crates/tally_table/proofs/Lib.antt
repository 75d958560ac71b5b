-- The table of a tally: its laws, how its making ends, that the check accepts it, what the call returns.
pub mod Sums
pub mod Reciprocals
pub mod Shares
pub mod Greatest
pub mod Answers
pub mod Making
pub mod Tables
pub mod TableEnding
pub mod Endings
pub mod Small
pub mod Accepted
pub mod TableCall
pub mod Settled
pub mod Pinned
