-- What is read of a broken file.
pub mod Broken
