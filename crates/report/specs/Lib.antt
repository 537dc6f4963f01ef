-- What is written onto the page, the steps that make up the text, and that its figures read back.
pub mod Writing
pub mod Adding
pub mod Lines
pub mod Reading
