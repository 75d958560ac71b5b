-- Document 01's own words for chosen rows, worths and safe plans, and demand 3's passenger.
pub mod Walk
pub mod Passenger
pub mod SafePlan
pub mod Words
pub mod RowWords
pub mod MarginWords
pub mod SmallPlan
pub mod NoGate
pub mod Demanded
pub mod Unnumbered
