-- Laws of the encoder: what it writes is read again and accepted.
pub mod Sizes
pub mod Written
pub mod Encode
pub mod EncodeBytes
pub mod EncodeCheck
pub mod ReadAgain
pub mod Reencode
pub mod Rewritten
pub mod CaseW
pub mod RowsFine
pub mod SoundFine
