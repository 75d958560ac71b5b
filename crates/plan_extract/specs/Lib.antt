-- The rides of the plan, and the marks of the rows that it wants.
pub mod Extracted
pub mod Marks
