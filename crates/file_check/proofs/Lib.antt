-- Laws of the check's second step.
pub mod Back
pub mod Seen
pub mod Turn
pub mod Reading
pub mod Steps
pub mod Settled
