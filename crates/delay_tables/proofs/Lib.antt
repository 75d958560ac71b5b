-- Every table by rising cumulative shares is accepted, and so is each whose cumulative shares are values that rise.
pub mod RisingTables
pub mod Values
pub mod RisingValues
pub mod Pinned
