-- Laws of the calls of a text.
pub mod Numbers
pub mod LastCalls
pub mod Neighbours
pub mod Pairs
pub mod EachOnce
pub mod Rising
pub mod PairsOnce
pub mod FileRows
pub mod Appearance
pub mod ReadSound
pub mod FaultNumbers
pub mod Pinned
