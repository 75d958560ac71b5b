-- A tally of landings by lateness, in document 02's words (E4).
pub mod Landing
pub mod Tally
pub mod Log
pub mod Outcome
pub mod LogOutcome
pub mod Fits
pub mod Returned
