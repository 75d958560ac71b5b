-- What a clock minute is on the sheet, and the text that prints it.
pub mod Clock
pub mod Text
