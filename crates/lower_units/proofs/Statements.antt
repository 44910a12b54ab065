-- What holds of white space, plain statements, gotos and returns holds of each statement of a
-- transfer and of the text of native records.
use Prim.Native.Nat.{ℕ}
use mathlib.Core.Bool.{Bool, true, false, cond}
use mathlib.Core.List.{List, [], ◌∷◌}
use lib.Dec.{leb}
use Rattle.armv4t.specs.Bit0.{clear_bit0}
use Rattle.base_lists.specs.Lists.{among}
use Rattle.c_tree.specs.Expr.{u32, word, udec, x-t, band, Expr, lit, bin}
use Rattle.c_tree.specs.Preamble.{v32}
use Rattle.c_tree.specs.Stmt.{Plain, declare, Test, other, Owner, common, Simple, gap, plain, goto}
use Rattle.c_tree.specs.Stmt.{ret, ret_if, Code, end, ◌⨾◌, when, braces}
use Rattle.c_tree.proofs.Statements.{EachStatement}
use Rattle.lower_forms.specs.Operands.{flags}
use Rattle.lower_forms.specs.Forms.{Lines, Native, straight, straight_if, branch_if, jump, pair, bx}
use Rattle.lower_forms.specs.Forms.{pop, Body}
use Rattle.lower_units.specs.Block.{nl, sp, line, lines, goto_code, transfer, closing_lines}
use Rattle.lower_units.specs.Block.{closing, leave, to_thumb, to_arm, conditional, native_text}

module _ (P : Simple → Type 0) (gaps : (l : Bool) (n : ℕ) → P (gap l n))
    (plains : (o : Owner) (p : Plain) → P (plain o p)) (gotos : (o : Owner) (k : ℕ) → P (goto o k))
    (rets : (o : Owner) (e : Expr) → P (ret o e))
    (retIfs : (o : Owner) (t : Test) (e : Expr) → P (ret_if o t e)) where
  pub line_each : (o : Owner) (ps : List Plain) (c : Code) → EachStatement P c
      → EachStatement P (line o ps c)
  line_each o [] c q = q
  line_each o (p ∷ []) c q = (plains o p, q)
  line_each o (p ∷ r ∷ ps) c q = (plains o p, (gaps false 1, line_each o (r ∷ ps) c q))

  pub lines_each : (o : Owner) (n : ℕ) (ls : Lines) (c : Code) → EachStatement P c
      → EachStatement P (lines o n ls c)
  lines_each o n [] c q = q
  lines_each o n (l ∷ ls) c q =
      (gaps false n, line_each o l (nl ⨾ lines o n ls c) (gaps true 0, lines_each o n ls c q))

  goto_each : (t : Bool) (o : Owner) (n k : ℕ) (c : Code) → EachStatement P c
      → EachStatement P (goto_code t o n k c)
  unfolding goto_code
  goto_each true o n k c q =
      (gaps false n, (retIfs o _ _, (gaps true 0, (gaps false n, (gotos o k, (gaps true 0, q))))))
  goto_each false o n k c q = (gaps false n, (gotos o k, (gaps true 0, q)))

  transfer_each : (ks : List ℕ) (a : ℕ) (o : Owner) (n k : ℕ) (c : Code) → EachStatement P c
      → EachStatement P (transfer ks a o n k c)
  unfolding transfer
  transfer_each ks a o n k c q = go (among k ks)
    where
      go : (b : Bool)
          → EachStatement P
          (cond b (goto_code (leb (clear_bit0 k) a) o n k c) (sp n ⨾ ret o (lit word k) ⨾ nl ⨾ c))
      go true = goto_each (leb (clear_bit0 k) a) o n k c q
      go false = (gaps false n, (rets o _, (gaps true 0, q)))

  pub closing_each : (ks : List ℕ) (b : Body) → EachStatement P (closing ks b)
  unfolding closing
  closing_each ks b =
      lines_each common 4 (closing_lines b) _ (transfer_each ks b.addr common 4 _ end tt)

  -- braces after spaces, and what stands after them
  braces_each : (b c : Code) → EachStatement P b → EachStatement P c
      → EachStatement P (sp 4 ⨾ braces b (nl ⨾ c))
  braces_each b c p q = (gaps false 4, (p, (gaps true 0, q)))

  conditional_each : (o : Owner) (e : Expr) (b c : Code) → EachStatement P b → EachStatement P c
      → EachStatement P (conditional o e b c)
  conditional_each o e b c p q =
      braces_each (sp 1 ⨾ line o flags (gap true 6 ⨾ when o false (other e) b (sp 1 ⨾ end))) c (
        gaps false 1,
        line_each o flags (gap true 6 ⨾ when o false (other e) b (sp 1 ⨾ end))
            (gaps true 6, (p, (gaps false 1, tt))),
      ) q

  leave_each : (o : Owner) (e : Expr) → EachStatement P (leave o e)
  leave_each o e = (gaps false 1, (rets o e, (gaps false 1, tt)))

  -- what a BX does with its target
  targets_each : (o : Owner) → EachStatement P (to_thumb o) × EachStatement P (to_arm o)
  targets_each o = (
    (gaps false 1, (plains o _, (gaps false 1, (plains o _, leave_each o _)))),
    (gaps true 6, (plains o _, (gaps false 1, (plains o _, leave_each o _)))),
  )

  pub native_each : (ks : List ℕ) (a : ℕ) (o : Owner) (r : Native) (c : Code) → EachStatement P c
      → EachStatement P (native_text ks a o r c)
  unfolding native_text
  native_each ks a o (straight t l) c q =
      lines_each o 4 t (sp 4 ⨾ braces (nl ⨾ lines o 8 l (sp 4 ⨾ end)) (nl ⨾ c))
      (braces_each (nl ⨾ lines o 8 l (sp 4 ⨾ end)) c
      (gaps true 0, lines_each o 8 l (sp 4 ⨾ end) (gaps false 4, tt)) q)
  native_each ks a o (straight_if t e l) c q =
      lines_each o 4 t (conditional o e (nl ⨾ lines o 8 l (sp 6 ⨾ end)) c)
      (conditional_each o e (nl ⨾ lines o 8 l (sp 6 ⨾ end)) c
      (gaps true 0, lines_each o 8 l (sp 6 ⨾ end) (gaps false 6, tt)) q)
  native_each ks a o (branch_if t e l k) c q =
      let exit : Code = transfer ks a o 8 k (sp 6 ⨾ end) in
      lines_each o 4 t (conditional o e (sp 1 ⨾ line o l (nl ⨾ exit)) c)
      (conditional_each o e (sp 1 ⨾ line o l (nl ⨾ exit)) c (
        gaps false 1,
        line_each o l (nl ⨾ exit)
            (gaps true 0, transfer_each ks a o 8 k (sp 6 ⨾ end) (gaps false 6, tt)),
      ) q)
  native_each ks a o (jump t k) c q =
      lines_each o 4 t (transfer ks a o 4 k end) (transfer_each ks a o 4 k end tt)
  native_each ks a o (pair t k) c q =
      lines_each o 4 t (transfer ks a o 4 k end) (transfer_each ks a o 4 k end tt)
  native_each ks a o (bx t e) c q =
      let body : Code = sp 1 ⨾ plain o (declare (u32, x-t) e []) ⨾ gap true 6
      ⨾ when o false (other (bin band (v32 x-t) (lit udec 1))) (to_thumb o) (to_arm o) in
      lines_each o 4 t (sp 4 ⨾ braces body (nl ⨾ end))
      (braces_each body end (gaps false 1, (plains o _, (gaps true 6, targets_each o))) tt)
  native_each ks a o (pop t p l r e) c q =
      let last : Code = sp 6 ⨾ plain o r ⨾ leave o e in
      lines_each o 4 t (sp 4 ⨾ braces (sp 1 ⨾ plain o p ⨾ nl ⨾ lines o 6 l last) (nl ⨾ end))
      (braces_each (sp 1 ⨾ plain o p ⨾ nl ⨾ lines o 6 l last) end (
        gaps false 1,
        (
          plains o p,
          (gaps true 0, lines_each o 6 l last (gaps false 6, (plains o r, leave_each o e))),
        ),
      ) tt)
