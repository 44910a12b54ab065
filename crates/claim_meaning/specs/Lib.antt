-- What is claimed of the text of blocks and of a file.
pub mod Block
mod Examples
pub mod Meaning
