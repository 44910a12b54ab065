-- What emit_block makes of a block's instructions, as forms of text.
pub mod Forms
pub mod Operands
pub mod InlineBody
pub mod Block
pub mod Agree
pub mod Differs
pub mod Means
pub mod Examples
pub mod MeaningExamples
