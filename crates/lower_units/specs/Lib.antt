-- The tree of blocks, groups and units, in the order of emit.rs, and what is claimed of the text of
-- records.
pub mod Block
pub mod Lines
pub mod Units
pub mod Measured
pub mod Examples
pub mod Text
pub mod Records
pub mod Differences
pub mod MeaningExamples
