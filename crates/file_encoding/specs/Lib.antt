-- The bytes of a timetable, and what can be written.
pub mod Encode
pub mod Writable
