-- What writing the sheet's texts one behind the other comes to.
pub mod Times
pub mod Lines
pub mod Asked
pub mod Sheets
pub mod Pinned
pub mod Settled
