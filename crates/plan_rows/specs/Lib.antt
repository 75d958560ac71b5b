-- A sound file as planning reads it: its rows by their numbers, and its tables as cumulative shares.
pub mod Reading
pub mod Sections
pub mod Idle
pub mod Sailings
