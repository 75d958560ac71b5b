-- The query that the scan forward answers, where it can be for sure and when, and what one row does to the cells.
pub mod Reached
pub mod Arrival
pub mod Cells
pub mod Swept
