-- Why an instruction went to a shell, what is said of it, and the text of that.
mod Examples
pub mod Lines
pub mod Reasons
pub mod Said
pub mod Sentence
