-- What is proved of the reasons, the shells and the sentences.
pub mod Claims
mod Leaving
mod ReadBack
mod Shells
mod Tree
mod Walked
