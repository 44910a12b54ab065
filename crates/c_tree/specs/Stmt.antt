-- To be believed: C's statements, functions and units, as many as emit.rs prints, with marks that
-- print nothing. A block is named by its key: in its function b_, its label L_ and the marks. At
-- each constructor stands what it prints, and where emit.rs prints it.
use Rattle.std.specs.Prelude.{ℕ, Bool, List, [], ◌∷◌}
use Rattle.c_tree.specs.Expr.{u32, u64, Name, x-r, x-v, x-n, x-a, x-b, x-cin, Var, Place}
use Rattle.c_tree.specs.Expr.{Width, Expr}

-- =, +=, &= and |=
pub data Set : Type 0 where
  is plus and or : Set

-- PREAMBLE's functions that set flags
pub data Proc : Type 0 where
  f-nz f-c f-nz64 : Proc

-- statements that only compute, so that a way goes on after them; without their `;`
pub data Plain : Type 0 where
  -- uint32_t* c = (uint32_t*)m: emit_block, emit_group
  registers : Plain
  -- uint32_t pc: emit_block, emit_group
  local : Var → Plain
  -- uint32_t cn = e, cz = e: inline_body, emit_block, PREAMBLE. The names after the first have its
  -- type
  declare : Var → Expr → List (Name × Expr) → Plain
  -- uint32_t r = op_adds(c, e, e, e): inline_body
  adds : Name → Expr → Expr → Expr → Plain
  -- c[15] = e: inline_body, emit_shell, emit_block, PREAMBLE
  set : Place → Set → Expr → Plain
  -- (void)r: inline_body, emit_block, emit_group
  discard : Var → Plain
  -- f_nz(c, e): inline_body
  run : Proc → Expr → Plain
  -- a->write32(m, e, e): inline_body
  write : Width → Expr → Expr → Plain
  -- a->tick(m, {}u): flush_ticks
  tick : ℕ → Plain

-- what a condition tests
pub data Test : Type 0 where
  -- a->guard(m, address, length, hash): emit_block
  guard : ℕ → ℕ → ℕ → Test
  -- a->chain_gate(m): transfer
  gate : Test
  -- cond_expr; t & 1u of Bx; pc != e of emit_shell
  other : Expr → Test

-- a mark on a statement: the key of the block for whose native record it is printed, or common
-- where it is printed for none
pub data Owner : Type 0 where
  native_of : ℕ → Owner
  common : Owner

-- a statement that has no other code of the tree in it, or white space, or a mark that prints
-- nothing
pub data Simple : Type 0 where
  -- white space: a line end if true, then so many spaces
  gap : Bool → ℕ → Simple
  -- a mark: here starts the text of native records of a block: key, index of the first record, how
  -- many
  record_mark : ℕ → ℕ → ℕ → Simple
  -- a plain statement with its `;`: where Plain says
  plain : Owner → Plain → Simple
  -- L_08000000_a:; : emit_block
  label : ℕ → Simple
  -- goto L_08000000_a;: transfer
  goto : Owner → ℕ → Simple
  -- return e;: PREAMBLE, transfer, and Bx and pop of PC in emit_block
  ret : Owner → Expr → Simple
  -- if (test) return e;: transfer, emit_shell
  ret_if : Owner → Test → Expr → Simple
  -- pc = a->interp_one(m);: emit_shell. Marked with key and index of the record that it carries out
  interp : ℕ → ℕ → Simple
  -- return a->interp_one(m);: emit_shell, emit_block. Marked likewise
  ret_interp : ℕ → ℕ → Simple
  -- return g_08000000(a, m, 0u);: emit_group. The group's first key, the number of the entry
  call : ℕ → ℕ → Simple
  -- switch (entry) { case 0u: goto ..; default: return 0u; }: emit_group. The members' keys
  switch : List ℕ → Simple

infixr 66 ◌⨾◌
-- statements one after the other
pub data Code : Type 0 where
  end : Code
  ◌⨾◌ : Simple → Code → Code
  -- if (test) { code }, and the code after; with a `!` before the test if true: emit_block
  when : Owner → Bool → Test → Code → Code → Code
  -- { code }, and the code after: emit_block
  braces : Code → Code → Code

infixr 64 ◌⧺◌
-- some code, and other code after it
abbrev pub ◌⧺◌ : Code → Code → Code
end ⧺ d = d
(s ⨾ c) ⧺ d = s ⨾ (c ⧺ d)
(when o n t b c) ⧺ d = when o n t b (c ⧺ d)
(braces b c) ⧺ d = braces b (c ⧺ d)

-- PREAMBLE's functions
pub data Helper : Type 0 where
  ror32 op-adds : Helper
  proc : Proc → Helper

-- their parameters; all but ror32 have c before them
abbrev pub params : Helper → List Var
params ror32 = (u32, x-v) ∷ (u32, x-n) ∷ []
params op-adds = (u32, x-a) ∷ (u32, x-b) ∷ (u32, x-cin) ∷ []
params (proc f-nz) = (u32, x-r) ∷ []
params (proc f-c) = (u32, x-v) ∷ []
params (proc f-nz64) = (u64, x-r) ∷ []

-- a function's head
pub data Head : Type 0 where
  -- static inline uint32_t ror32(uint32_t v, uint32_t n): PREAMBLE
  helper : Helper → Head
  -- uint32_t b_08000000_a(const RtApi* a, void* m): emit_block, emit_group
  block : ℕ → Head
  -- static uint32_t g_08000000(const RtApi* a, void* m, uint32_t entry): emit_group. The group's
  -- first key
  group : ℕ → Head

-- what a unit is a list of: emit_c_chunked, emit_group, emit_block
pub data Top : Type 0 where
  -- PREAMBLE up to its functions
  opening : Top
  -- head { code }, and a line end
  function : Head → Code → Top
  -- a line end
  blank : Top
  -- extern uint32_t b_08000000_a(const RtApi* a, void* m);
  extern : ℕ → Top
  -- RCG_EXPORT const RcgBlock rcg_blocks[] = { .. };
  table : List ℕ → Top
  -- RCG_EXPORT const uint64_t rcg_block_count = {};
  count : ℕ → Top
