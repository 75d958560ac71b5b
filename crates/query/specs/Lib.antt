-- What is asked of a plan: its numbers, its rule and its bytes; no file is named here.
pub mod Query
