-- Decimal numbers as texts, texts compared, and a text written into lent bytes.
pub mod Decimal
pub mod Put
pub mod Same
