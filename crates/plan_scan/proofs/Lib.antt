-- Laws of the scan: regions and stacks in the lent cells, chosen rides stop by stop, how far a worth can reach, and one turn of the loop.
pub mod Regions
pub mod Counting
pub mod Ways
pub mod ByStop
pub mod Limits
pub mod Rising
pub mod Worths
pub mod TimetableTo
pub mod PairsHeld
pub mod Choosing
pub mod Step
pub mod Turn
pub mod Bounds
pub mod Laid
pub mod Settled
