-- Getting off at a stop: the stack of chosen rows that stands there, and what it must keep.
pub mod Landing
pub mod Boarding
