-- The rule of a query, test by test, at both sides of each line; and what its calls permit.
pub mod Rules
pub mod Pinned
pub mod Settled
