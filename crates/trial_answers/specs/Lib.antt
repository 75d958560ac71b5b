-- What the comparison with the second program sees: whole answers.
pub mod Seen
