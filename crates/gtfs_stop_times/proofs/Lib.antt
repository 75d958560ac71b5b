-- Laws of the notes that are kept while the text is read.
pub mod KeptCalls
pub mod RowsRead
pub mod Entered
pub mod Behind
pub mod WithCall
pub mod Ready
pub mod Ending
pub mod LineSteps
pub mod AllLines
pub mod HeaderLine
pub mod Answered
pub mod NameLines
pub mod Written
pub mod Settled
