-- The delay table that is made of a tally, in document 02's words (E4).
pub mod Table
pub mod Outcome
pub mod Fits
pub mod Returned
