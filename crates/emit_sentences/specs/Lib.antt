-- What the writers of sentences are told.
pub mod Steps
