-- How the text is read: what the notes hold, what a line adds, what is answered and written.
pub mod Held
pub mod Steps
pub mod Answers
pub mod Putting
