-- The C that emit.rs prints: expressions, statements, their text, and what C's grammar asks of
-- them.
pub mod Expr
pub mod Stmt
pub mod Opening
pub mod Print
pub mod Binds
pub mod Preamble
pub mod Examples
