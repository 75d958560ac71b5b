-- What the lent cells hold of one class.
pub mod Summed
