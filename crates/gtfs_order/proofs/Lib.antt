-- Laws of the order in which rows come out.
pub mod Ordered
pub mod AsRead
pub mod Keys
pub mod Filled
pub mod Written
pub mod Settled
