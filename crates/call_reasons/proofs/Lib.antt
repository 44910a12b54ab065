-- The laws that the functions' proofs share.
mod Answers
mod Rest
mod Written
