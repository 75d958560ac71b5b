-- Laws of a stop's chosen rides, of its stack and the search in it.
pub mod AtStop
pub mod Entries
pub mod Stored
pub mod Regions
pub mod Parting
pub mod Search
pub mod Stacked
pub mod Settled
