-- Laws of the lent cells.
pub mod Filled
pub mod Outside
pub mod Settled
pub mod TwoCells
