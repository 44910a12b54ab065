-- A block's text has no label.
use Prim.Native.Nat.{ℕ, ◌+◌}
use mathlib.Core.Bool.{Bool, true, false, cond}
use mathlib.Core.List.{List, [], ◌∷◌}
use mathlib.Core.Option.{Option, none, some}
use Rattle.c_tree.specs.Stmt.{Owner, Simple, gap, record_mark, plain, label, goto, ret, ret_if}
use Rattle.c_tree.specs.Stmt.{interp, ret_interp, call, switch, Code, end}
use Rattle.lower_forms.specs.Forms.{Lines, Native, Form, shell, records_in, Body}
use Rattle.lower_units.specs.Block.{lines, closing, native_text, code_from, under_guard, block_code}
use Rattle.file_blocks.specs.Address.{outside_rom_bios}
use Rattle.c_tree.proofs.Statements.{EachStatement}
use Rattle.lower_units.proofs.Statements.{lines_each, closing_each, native_each}

-- a text without labels
abbrev pub NoLabel : Simple → Type 0
NoLabel (gap l n) = Unit {0}
NoLabel (record_mark b p n) = Unit {0}
NoLabel (plain o t) = Unit {0}
NoLabel (label k) = ⊥
NoLabel (goto o k) = Unit {0}
NoLabel (ret o t) = Unit {0}
NoLabel (ret_if o t e) = Unit {0}
NoLabel (call k n) = Unit {0}
NoLabel (interp b p) = Unit {0}
NoLabel (ret_interp b p) = Unit {0}
NoLabel (switch ks) = Unit {0}

abbrev pub Bare : Code → Type 0
Bare c = EachStatement NoLabel c

bare_lines : (o : Owner) (n : ℕ) (ls : Lines) (c : Code) → Bare c → Bare (lines o n ls c)
bare_lines o n ls c h =
    lines_each NoLabel (λ l n. tt) (λ o p. tt) (λ o k. tt) (λ o e. tt) (λ o t e. tt) o n ls c h

bare_cond : (x : Bool) (c d : Code) → Bare c → Bare d → Bare (cond x c d)
bare_cond true c d h k = h
bare_cond false c d h k = k

module _ (ks : List ℕ) (b : Body) where
  bare_closing : Bare (closing ks b)
  bare_closing =
      closing_each NoLabel (λ l n. tt) (λ o p. tt) (λ o k. tt) (λ o e. tt) (λ o t e. tt) ks b

  bare_native : (o : Owner) (r : Native) (c : Code) → Bare c → Bare (native_text ks b.addr o r c)
  bare_native o r c h =
      native_each NoLabel (λ l n. tt) (λ o p. tt) (λ o k. tt) (λ o e. tt) (λ o t e. tt) ks b.addr
      o r c h

  bare_code : (rs : List Form) (p : ℕ) → Bare (code_from ks b p rs)
  unfolding code_from
  bare_code [] p = bare_closing
  bare_code (Form.native r ∷ rs) p = (tt, bare_native _ r _ (bare_code rs (p + records_in r)))
  bare_code (shell h t e ∷ []) p =
      bare_lines _ 4 t _ (tt, (tt, (tt, bare_cond h (closing ks b) end bare_closing tt)))
  bare_code (shell h t e ∷ r ∷ rs) p =
      bare_lines _ 4 t _ (tt, (tt, (tt, (tt, (tt, bare_code (r ∷ rs) (p + 1))))))

  bare_guard : (y : Option ℕ) → Bare (under_guard ks b y)
  unfolding under_guard
  bare_guard none = (tt, (tt, (tt, (tt, (tt, tt)))))
  bare_guard (some h) = (tt, ((tt, (tt, (tt, (tt, (tt, tt))))), (tt, bare_code b.forms 0)))

  pub bare_block : Bare (block_code ks b)
  unfolding block_code
  bare_block =
      bare_cond (outside_rom_bios b.addr) _ _ (bare_guard b.hash) (bare_code b.forms 0)
