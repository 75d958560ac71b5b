-- Laws of ids, of their keys and of the book that finds them.
pub mod Packing
pub mod Keys
pub mod Numbering
pub mod Different
pub mod Chain
pub mod KeyNumbers
pub mod Search
pub mod Runs
pub mod Stores
pub mod Extended
pub mod Held
pub mod Settled
pub mod Pinned
