-- Numbers in rising order.
pub mod Sorted
pub mod InOrder
pub mod Counted
