-- The cases of document 01 that are marked P.
pub mod Cases
