-- The laws that the functions' proofs share.
mod Among
pub mod GroupOf
pub mod Groups
pub mod Places
mod Preparing
pub mod RowKeys
