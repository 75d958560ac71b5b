-- What `stop_times.txt` says: its calls, its first fault by line, the rows of neighbouring calls, the ids by number.
pub mod Calls
pub mod Faults
pub mod Reading
pub mod Neighbours
pub mod Appearance
pub mod Sound
pub mod FaultNumbers
pub mod Names
pub mod FileRows
