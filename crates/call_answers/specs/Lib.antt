-- The definitions that the crate's promises name: Values says what is told of a unit, Answers how
-- the code makes and hands over the answers.
pub mod Answers
mod Examples
pub mod Values
