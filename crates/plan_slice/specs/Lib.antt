-- The plan in a lent slice: what is written there, and what is read back.
pub mod Slice
