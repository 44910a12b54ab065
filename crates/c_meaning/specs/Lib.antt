-- What C99 makes of the tree of c_tree.
pub mod Types
pub mod State
pub mod Eval
pub mod Exec
pub mod Helpers
pub mod Perform
pub mod Examples
