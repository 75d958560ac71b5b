-- The bus partner's stop times as a sailing file.
pub mod Import
pub mod FaultPlace
pub mod Room
pub mod Returned
pub mod Named
