-- Laws of timetables: what a fine verdict tells, and examples that pin the rules.
pub mod Verdicts
pub mod Behind
pub mod RowsSound
pub mod Pinned
pub mod Places
pub mod Settled
