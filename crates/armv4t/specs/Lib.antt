-- The definitions that the crate's promises name.
pub mod Cond
pub mod AluOp
pub mod Shift
pub mod RegisterList
pub mod Instr
pub mod Bit0
pub mod Fused
pub mod InRange
