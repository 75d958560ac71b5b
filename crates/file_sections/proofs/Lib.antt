-- The first step of the check: laws on shares, on class blocks and on trailer and sections.
pub mod Shares
pub mod ClassBlocks
pub mod Joining
pub mod Settled
