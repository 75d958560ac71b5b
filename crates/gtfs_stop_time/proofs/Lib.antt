-- Laws of what one line says: its fields by their spans, what their numbers tell, the faults in their order, and examples that pin the rules.
pub mod Spans
pub mod Numbers
pub mod Times
pub mod FaultOrder
pub mod Answers
pub mod Told
pub mod Pinned
pub mod Settled
