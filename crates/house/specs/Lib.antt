-- What the house delay tables are, and what is answered about them.
pub mod House
pub mod HouseShare
pub mod HouseTable
