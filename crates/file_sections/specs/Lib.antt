-- The first step of the check: what it answers, and what reading the class blocks answers.
pub mod ReadBy
pub mod SectionsRead
pub mod Blocks
