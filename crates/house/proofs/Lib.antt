-- The rule is pinned, every table by the rule is accepted, and of what the call returns each case is known and settled.
pub mod Pinned
pub mod Pairs
pub mod Answers
pub mod Rule
pub mod RuleTables
pub mod HouseCall
pub mod Settled
