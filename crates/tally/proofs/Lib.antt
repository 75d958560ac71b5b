-- Tallying: its laws, how its calls end, the tally of a log, what the calls return.
pub mod Differences
pub mod Counts
pub mod Places
pub mod Answers
pub mod Ends
pub mod Endings
pub mod Kept
pub mod LogSteps
pub mod Logs
pub mod Stopped
pub mod Small
pub mod TallyCall
pub mod LogCall
pub mod Settled
pub mod Pinned
