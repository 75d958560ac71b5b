-- The check's second step: the rows behind a row, and where the rows lie.
pub mod Behind
