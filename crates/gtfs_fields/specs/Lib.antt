-- What a field of `stop_times.txt` says: a whole number, or a time.
pub mod Whole
pub mod Time
pub mod Words
