-- Until when one can start.
pub mod Starts
