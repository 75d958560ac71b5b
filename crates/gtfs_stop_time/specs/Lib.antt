-- What one line of `stop_times.txt` says by itself, and the faults of its fields.
pub mod StopTime
pub mod Faults
pub mod Said
