-- The booking desk's answer, and its bytes afterwards.
pub mod Desk
pub mod Given
pub mod Host
