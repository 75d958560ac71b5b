-- How many numbers and bytes are lent.
pub mod Rooms
