-- The calls of interp_one in the tree of a block's text: one for each shell, and one in the place
-- of a block outside BIOS and ROM.
-- Assumes nothing.
use Prim.Native.Nat.{ℕ, ◌+◌}
use mathlib.Core.Path.{◌≡◌, refl, ap, ◌∙◌}
use mathlib.Core.Bool.{Bool, true, false, not, cond, ◌&&◌, ◌||◌, and-false}
use mathlib.Core.List.{List, [], ◌∷◌}
use mathlib.Core.Option.{Option, none, some, map}
use native.Mathlib.Nat.{zero-add}
use native.Mathlib.Omega.{arith}
use borrow.Author.Tests.{eqb-true}
use lib.Dec.{eqb, leb}
use Rattle.base_lists.specs.Lists.{is_some}
use Rattle.armv4t.specs.Bit0.{clear_bit0}
use Rattle.base_hash.specs.Fnv.{fnv64}
use Rattle.base_words.specs.Word.{one_if}
use Rattle.base_lists.specs.Lists.{among}
use Rattle.file_blocks.specs.Parse.{Block, block_key}
use Rattle.file_blocks.specs.Address.{outside_rom_bios}
use Rattle.c_tree.specs.Expr.{word, lit}
use Rattle.c_tree.specs.Stmt.{Plain, Owner, common, plain, ret, ret_interp, Code, end, ◌⨾◌}
use Rattle.lower_forms.specs.Forms.{Lines, Native, straight, straight_if, branch_if, jump, pair, bx}
use Rattle.lower_forms.specs.Forms.{pop, Form, shell, records_in, Body}
use Rattle.lower_forms.specs.Block.{body_of}
use Rattle.lower_units.specs.Block.{body_key, nl, sp, line, lines, goto_code, transfer, closing}
use Rattle.lower_units.specs.Block.{closing_lines, exit_code, leave, native_text, shell_code, code_from}
use Rattle.lower_units.specs.Block.{under_guard, block_code}
use Rattle.claim_reasons.specs.InterpCalls.{interp_calls}
use Rattle.claim_reasons.proofs.Leaving.{drops}
use Rattle.claim_reasons.proofs.Walked.{none_before, shell_from, shell_at}

module _ (k i : ℕ) where
  -- plain statements call nothing
  of_line : (o : Owner) (ps : List Plain) (c : Code) → interp_calls k i (line o ps c)
      ≡ interp_calls k i c
  of_line o [] c = refl
  of_line o (p ∷ []) c = zero-add (interp_calls k i c)
  of_line o (p ∷ q ∷ ps) c = zero-add _ ∙ zero-add _ ∙ of_line o (q ∷ ps) c

  of_lines : (o : Owner) (n : ℕ) (ls : Lines) (c : Code) → interp_calls k i (lines o n ls c)
      ≡ interp_calls k i c
  of_lines o n [] c = refl
  of_lines o n (l ∷ ls) c = zero-add _ ∙ of_line o l (nl ⨾ lines o n ls c) ∙ zero-add _
      ∙ of_lines o n ls c

  of_goto : (y : Bool) (o : Owner) (n key : ℕ) (c : Code) → interp_calls k i (goto_code y o n key c)
      ≡ interp_calls k i c
  unfolding goto_code
  of_goto true o n key c = omega arith
  of_goto false o n key c = omega arith

  of_transfer : (ks : List ℕ) (a : ℕ) (o : Owner) (n key : ℕ) (c : Code) → interp_calls k i
      (transfer ks a o n key c) ≡ interp_calls k i c
  unfolding transfer
  of_transfer ks a o n key c = by (among key ks)
    where
      by : (t : Bool)
          → interp_calls k i
          (cond t (goto_code (leb (clear_bit0 key) a) o n key c)
          (sp n ⨾ ret o (lit word key) ⨾ nl ⨾ c))
          ≡ interp_calls k i c
      by true = of_goto (leb (clear_bit0 key) a) o n key c
      by false = omega arith

  of_exit : (ks : List ℕ) (a : ℕ) (o : Owner) (ls : Lines) (key : ℕ) → interp_calls k i
      (exit_code ks a o ls key) ≡ 0
  of_exit ks a o ls key = of_lines o 4 ls (transfer ks a o 4 key end) ∙ of_transfer ks a o 4 key end

  of_closing : (ks : List ℕ) (b : Body) → interp_calls k i (closing ks b) ≡ 0
  unfolding closing
  of_closing ks b = of_exit ks b.addr common (closing_lines b) _

  -- a native record calls nothing; after one that drops the rest nothing stands
  of_native : (ks : List ℕ) (a : ℕ) (o : Owner) (r : Native) (c : Code) → interp_calls k i
      (native_text ks a o r c) ≡ cond (drops r) 0 (interp_calls k i c)
  unfolding native_text
  of_native ks a o (straight t l) c = of_lines o 4 t _ ∙ omega (arith, of_lines o 8 l (sp 4 ⨾ end))
  of_native ks a o (straight_if t e l) c = of_lines o 4 t _ ∙ omega (
    arith,
    of_lines o 8 l
        (sp 6 ⨾ end),
  )
  of_native ks a o (branch_if t e l key) c =
      of_lines o 4 t _ ∙ omega (
        arith,
        of_line o l (nl ⨾ transfer ks a o 8 key
            (sp 6 ⨾ end)),
        of_transfer ks a o 8 key (sp 6 ⨾ end),
      )
  of_native ks a o (jump t key) c = of_exit ks a o t key
  of_native ks a o (pair t key) c = of_exit ks a o t key
  of_native ks a o (bx t e) c = of_lines o 4 t _ ∙ omega arith
  of_native ks a o (pop t p l q e) c = of_lines o 4 t _ ∙ omega (
    arith,
    of_lines o 6 l
        (sp 6 ⨾ plain o q ⨾ leave o e),
  )

-- one or the other, and not both
joined : (t m : Bool) → (t ≡ true → m ≡ false) → one_if t + one_if m ≡ one_if (t || m)
joined true m f = rw (f refl)
joined false m f = zero-add (one_if m)

unless : (d t m : Bool) → cond d 0 (one_if (t && m)) ≡ one_if (t && (not d && m))
unless true t m = rw (and-false t)
unless false t m = refl

module _ (ks : List ℕ) (b : Body) (i : ℕ) where
  last_closing : (key : ℕ) (h : Bool) → interp_calls key i (cond h (closing ks b) end) ≡ 0
  last_closing key true = of_closing key i ks b
  last_closing key false = refl

  -- a call marked with record p, and what stands after it
  one_more : (t : Bool) (p : ℕ) (m : Bool) → (eqb i p ≡ true → m ≡ false)
      → one_if (t && eqb i p) + one_if (t && m) ≡ one_if (t && (eqb i p || m))
  one_more true p m f = joined (eqb i p) m f
  one_more false p m f = refl

  -- the calls for a record in the code of a block's records from record p on: one if it has a shell
  -- there, and the key is the block's
  pub of_code : (key p : ℕ) (fs : List Form)
      → interp_calls key i (code_from ks b p fs) ≡ one_if (eqb key (body_key b) && shell_from i p fs)
  unfolding code_from shell_from
  of_code key p [] = rw (of_closing key i ks b, and-false (eqb key (body_key b)))
  of_code key p (Form.native r ∷ rs) =
      zero-add _
      ∙ of_native key i ks b.addr (Owner.native_of (body_key b)) r (code_from ks b
      (p + records_in r) rs)
      ∙ ap (cond (drops r) 0) (of_code key (p + records_in r) rs)
      ∙ unless (drops r) (eqb key (body_key b)) (shell_from i (p + records_in r) rs)
  of_code key p (shell h t k ∷ []) =
      of_lines key i common 4 t
      (sp 4 ⨾ ret_interp (body_key b) p ⨾ nl ⨾ cond h (closing ks b) end)
      ∙ rw (last_closing key h)
      (omega (
        arith,
        one_more (eqb key (body_key b)) p false (λ e. refl),
        ap one_if (and-false
            (eqb key (body_key b))),
      ))
  of_code key p (shell h t k ∷ r ∷ rs) =
      of_lines key i common 4 t (shell_code b p k (code_from ks b (p + 1) (r ∷ rs)))
      ∙ rw (of_code key (p + 1) (r ∷ rs))
      (omega (
        arith,
        one_more (eqb key (body_key b)) p (shell_from i (p + 1) (r ∷ rs))
            (λ e. none_before i (p + 1) (r ∷ rs) (omega (arith, eqb-true i p e))),
      ))

-- in a block's text, for any group: one call for each instruction that has a shell, and outside
-- BIOS and ROM one more, marked with index 0, in the block's place
pub of_block : (ks : List ℕ) (multiplier : ℕ) (b : Block) (key i : ℕ)
    → interp_calls key i (block_code ks (body_of multiplier b))
    ≡ one_if (eqb key (block_key b) && shell_at b i)
    + one_if (eqb key (block_key b) && (outside_rom_bios b.addr && eqb i 0))
unfolding block_code body_of shell_at under_guard
of_block ks multiplier b key i = by (outside_rom_bios b.addr) b.code
  where
    body : Body
    body = body_of multiplier b

    code : interp_calls key i (code_from ks body 0 body.forms)
        ≡ one_if (eqb key (block_key b) && shell_from i 0 body.forms)
    code = of_code ks body i key 0 body.forms

    by : (t : Bool) (o : Option (List ℕ))
        → interp_calls key i
        (cond t (under_guard ks body (map (fnv64 multiplier) o))
        (code_from ks body 0 body.forms))
        ≡ one_if (eqb key (block_key b) && ((not t || is_some o) && shell_from i 0 body.forms))
        + one_if (eqb key (block_key b) && (t && eqb i 0))
    by false o = rw (and-false (eqb key (block_key b))) (omega (arith, code))
    by true none = rw (and-false (eqb key (block_key b))) (omega arith)
    by true (some bytes) = rw code (omega arith)
