-- The laws that the functions' proofs share.
mod Read
mod Room
