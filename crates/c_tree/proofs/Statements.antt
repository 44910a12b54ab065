-- What holds of each statement of code.
use Rattle.c_tree.specs.Stmt.{Simple, Code, end, ◌⨾◌, when, braces}

-- P of each statement, at any depth
abbrev pub EachStatement : (Simple → Type 0) → Code → Type 0
EachStatement P end = Unit {0}
EachStatement P (s ⨾ c) = P s × EachStatement P c
EachStatement P (when o n t b c) = EachStatement P b × EachStatement P c
EachStatement P (braces b c) = EachStatement P b × EachStatement P c
