-- What decimal digits say, and what writing texts one behind the other comes to.
pub mod Decimals
pub mod Putting
pub mod Same
pub mod Digits
pub mod Settled
pub mod Pinned
