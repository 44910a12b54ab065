-- Which of some pieces fit what is lent.
mod Examples
pub mod Fitting
pub mod Steps
