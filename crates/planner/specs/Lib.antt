-- Which calls are admitted, what the planning entry points answer, and what every lent slice holds afterwards.
pub mod Admission
pub mod Outcome
