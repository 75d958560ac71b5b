-- Laws of the scan forward: who is reached, what one row does to the cells, and when the target's cell is final.
pub mod Arrivals
pub mod Steps
pub mod Sweep
pub mod Final
pub mod Returns
pub mod InFile
pub mod Start
pub mod Answer
pub mod Pinned
pub mod Settled
