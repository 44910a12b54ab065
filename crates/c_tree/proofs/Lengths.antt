-- How long the text of code is at most.
use mathlib.Core.Path.{◌≡◌}
use Prim.Native.Nat.{◌+◌}
use native.Mathlib.Omega.{arith}
use Rattle.base_text.proofs.Lengths.{most}
use Rattle.c_tree.specs.Stmt.{Code, end, ◌⨾◌, when, braces, ◌⧺◌}
use Rattle.c_tree.specs.Print.{code_text}

-- code after code
pub most_append : (c d : Code) → most (code_text (c ⧺ d)) ≡ most (code_text c) + most (code_text d)
most_append end d = omega arith
most_append (s ⨾ c) d = omega (arith, most_append c d)
most_append (when o n t b c) d = omega (arith, most_append c d)
most_append (braces b c) d = omega (arith, most_append c d)
