-- Laws of a stop's chosen rides, of its stack and the search in it, and of sums over delays.
pub mod Runs
pub mod Turns
pub mod Landings
pub mod Settled
