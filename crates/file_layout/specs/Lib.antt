-- The sailing file: its bytes, what they decode to, and what the check says of them.
pub mod Format
pub mod Decode
pub mod Small
pub mod Check
pub mod Sound
pub mod CaseW
