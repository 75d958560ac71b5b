-- What a ride, a safe journey, a worth, a chosen row and the plan are, and the timetables on which each is easily misread.
pub mod Rides
pub mod Sound
pub mod Journeys
pub mod Worth
pub mod Chosen
pub mod FromRow
pub mod Plan
pub mod Trips
pub mod Examples
pub mod Misreadings
pub mod Margins
pub mod Gates
pub mod NoGate
