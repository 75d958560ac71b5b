-- What a timetable is, and the rules that its rows and tables keep; no byte is named here.
pub mod Limits
pub mod Timetable
pub mod Verdict
pub mod Places
pub mod Rows
pub mod Classes
pub mod Ticks
pub mod Sound
