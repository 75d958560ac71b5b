-- The lines of `stop_times.txt`, their fields, and the columns that are wanted.
pub mod Lines
pub mod Columns
pub mod Cut
pub mod Marks
pub mod Naming
pub mod Joined
