-- The ARM Architecture Reference Manual's account of the instructions, for ARMv4T. Sections are
-- those of issue I; the instructions stand in A4.1 (ARM) and A7.1 (Thumb) by their names.
pub mod Machine
pub mod Operators
pub mod Conditions
pub mod Shifter
pub mod DataProcessing
pub mod Multiply
pub mod Transfer
pub mod Multiple
pub mod Unsaid
pub mod Execute
pub mod Examples
pub mod Thumb
pub mod ThumbExamples
