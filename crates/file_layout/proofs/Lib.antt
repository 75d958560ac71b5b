-- Laws of the sailing file: what a fine verdict tells of its bytes, examples that pin the rules, and what its readers permit.
pub mod Blocks
pub mod FileRows
pub mod TrailerSound
pub mod Sound
pub mod Pinned
pub mod Refusals
pub mod Settled
pub mod ByNumber
