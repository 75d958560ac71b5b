-- Laws of the steps of planning.
pub mod Bounds
pub mod Answered
pub mod First
pub mod Laying
pub mod Parts
