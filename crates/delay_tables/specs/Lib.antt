-- A delay table by its cumulative shares.
pub mod Rising
