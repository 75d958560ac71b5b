-- Laws of the calls from C.
pub mod Settled
