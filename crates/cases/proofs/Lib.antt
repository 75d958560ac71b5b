-- The cases marked P hold.
pub mod Cases
