-- What the steps of planning ask of each other, and what they answer.
pub mod Steps
pub mod Answers
