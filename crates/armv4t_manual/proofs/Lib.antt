-- The laws of the manual's account.
pub mod Kept
pub mod State
pub mod Thumb
