-- The stack of chosen rows that a stop has in the lent cells: its entries, the rides that they stand for, the search in it.
pub mod Stacks
pub mod Regions
pub mod Chosen
pub mod Search
