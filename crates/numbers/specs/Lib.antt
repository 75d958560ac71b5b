-- Little-endian numbers, and a slice that changes in its first numbers alone.
pub mod Numbers
pub mod Bytes
pub mod Over
