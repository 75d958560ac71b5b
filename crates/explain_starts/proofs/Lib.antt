-- Until when one can start: what an answer tells of it, how halving closes in on it, and that it is one.
pub mod Asking
pub mod Closing
pub mod Settled
