-- What the lent cells hold after the scan backward, and within it.
pub mod Scanned
pub mod Stores
pub mod Regions
pub mod Held
pub mod Reach
