-- What the calls for the comparison settle.
pub mod Settled
