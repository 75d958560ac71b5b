-- What a file that is written ends with.
pub mod Ends
pub mod Answers
