-- The definitions that the crate's promises name: Target says what document 01 says, Search what
-- the steps of the code do.
pub mod Search
pub mod Target
