-- What is read from what the calls return.
pub mod Returned
