-- What is lent is as large as it is said to be, and one byte too many shows.
pub mod Enough
pub mod Settled
