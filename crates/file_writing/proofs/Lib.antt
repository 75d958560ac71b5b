-- Laws of a file that is written piece by piece, and what the check says of it.
pub mod Stores
pub mod OnTime
pub mod Whole
pub mod Answers
pub mod Settled
