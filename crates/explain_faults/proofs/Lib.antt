-- What a reading of a broken file settles.
pub mod Settled
