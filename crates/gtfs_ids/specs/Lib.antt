-- Ids, numbered by first appearance, and the book that finds them.
pub mod Ids
pub mod Keys
pub mod Book
