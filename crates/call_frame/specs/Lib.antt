-- The definitions that the promises of calls name: Answer, Frame, Pieces and Numbers say what calls
-- leave, Refusal what the code's refusals are there, Open what a step of the code tells.
pub mod Answer
mod Examples
pub mod Frame
pub mod Numbers
pub mod Open
pub mod Pieces
pub mod Refusal
