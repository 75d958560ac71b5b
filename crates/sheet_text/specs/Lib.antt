-- The sheet as a text, the room it can need, and what the call for it leaves.
pub mod Sheet
pub mod Room
pub mod Outcome
