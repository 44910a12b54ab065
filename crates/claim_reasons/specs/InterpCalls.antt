-- To be believed: the calls of interp_one in the tree of a text, by the marks that they have.
use Rattle.std.specs.Prelude.{ℕ, ◌+◌, ◌&&◌, eqb}
use Rattle.base_words.specs.Word.{one_if}
use Rattle.c_tree.specs.Stmt.{Simple, gap, record_mark, plain, label, goto, ret, ret_if, interp}
use Rattle.c_tree.specs.Stmt.{ret_interp, call, switch, Code, end, ◌⨾◌, when, braces}

-- how many calls of interp_one for the record with index i of the block with key k a statement is
abbrev pub interp_call : ℕ → ℕ → Simple → ℕ
interp_call k i (gap l n) = 0
interp_call k i (record_mark j p n) = 0
interp_call k i (plain o p) = 0
interp_call k i (label j) = 0
interp_call k i (goto o j) = 0
interp_call k i (ret o e) = 0
interp_call k i (ret_if o t e) = 0
interp_call k i (interp j p) = one_if (eqb k j && eqb i p)
interp_call k i (ret_interp j p) = one_if (eqb k j && eqb i p)
interp_call k i (call j p) = 0
interp_call k i (switch js) = 0

-- how many stand in some code
abbrev pub interp_calls : ℕ → ℕ → Code → ℕ
interp_calls k i end = 0
interp_calls k i (s ⨾ c) = interp_call k i s + interp_calls k i c
interp_calls k i (when o n t b c) = interp_calls k i b + interp_calls k i c
interp_calls k i (braces b c) = interp_calls k i b + interp_calls k i c
