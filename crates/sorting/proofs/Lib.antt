-- Laws of numbers in rising order.
pub mod Each
pub mod Placed
pub mod Order
pub mod Counted
pub mod Same
pub mod Settled
