-- How the reading of a file ended, and how many bytes were read.
pub mod Counts
pub mod Endings
