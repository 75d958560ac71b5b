-- Laws that belong to no one crate: one file for each kind of thing that they are about.
pub mod Lists
pub mod Tests
pub mod Outcomes
pub mod Options
pub mod Downward
pub mod Members
pub mod Alternatives
pub mod Below
pub mod Quotients
pub mod Places
