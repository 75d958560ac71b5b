-- The order in which rows come out.
pub mod Order
pub mod Keys
pub mod InTurn
