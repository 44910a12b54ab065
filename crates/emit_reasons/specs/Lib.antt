-- What the steps of the code tell.
pub mod Steps
