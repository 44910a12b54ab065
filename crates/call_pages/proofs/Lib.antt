-- The laws that the functions' proofs share.
mod Answers
mod Blanks
mod Claims
mod Fields
mod Fitted
mod Paging
mod Rows
