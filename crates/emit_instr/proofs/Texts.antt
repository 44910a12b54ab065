-- From a form of a block on to what is left of the block, by what was written of the form.
use Rattle.std.proofs.Common.{◌≡◌, ℕ, ◌+◌, ◌%◌, ◌^◌, Bool, true, false, cond, not, ◌&&◌, List, [], ◌∷◌, ◌++◌, sym, ap, ◌∙◌, true≢false}
use Rattle.armv4t.specs.declared.Instr.{Instr}
use Rattle.base_text.specs.Doc.{◌▸◌}
use Rattle.base_text.specs.Flat.{flat}
use Rattle.base_text.specs.Wrote.{Wrote}
use Rattle.c_tree.specs.Expr.{Expr}
use Rattle.c_tree.specs.Stmt.{Plain, Owner, common, ret_interp, end, ◌⨾◌}
use Rattle.c_tree.specs.Print.{expr_text, code_text}
use Rattle.file_blocks.specs.Address.{key_of}
use Rattle.armv4t.specs.Cond.{is_al}
use Rattle.lower_forms.specs.Forms.{Lines, Native, straight, straight_if, branch_if, jump, Form}
use Rattle.lower_forms.specs.Forms.{shell, records_in, Body}
use Rattle.lower_forms.specs.Operands.{cond_expr}
use Rattle.lower_forms.specs.InlineBody.{each_on_line}
use Rattle.lower_forms.specs.Block.{flush_ticks, emit_branch, branch_regs, pc_line}
use Rattle.file_records.specs.BlockRecord.{key_plus}
use Rattle.lower_units.specs.Block.{body_key, body_end, nl, sp, line, lines, transfer, native_text}
use Rattle.lower_units.specs.Block.{shell_code, code_from, exit_code, closing_lines}
use Rattle.lower_units.specs.Lines.{lines_text}
use Rattle.emit_flow.specs.Pieces.{before_condition, after_condition, after_conditional}
use Rattle.emit_flow.proofs.Blocks.{straight_text, straight_if_text, branch_text, code_native}
use Rattle.emit_flow.proofs.Blocks.{code_shell, code_last, closing_text}
use Rattle.emit_instr.specs.Onward.{Onward}
use Rattle.emit_instr.specs.Steps.{lowered}
use Rattle.base_lists.specs.Lists.{is_empty}
use Rattle.emit_instr.proofs.Onward.{by}

module _ {o o' : List ℕ} {at r : ℕ} (ks : List ℕ) (b : Body) (j : ℕ) where
  -- an exit, whose text has nothing after it, from the block's address
  pub exit_step : (n : Native) (src : ℕ) (fs : List Form) → b.addr ≡ src
      → Wrote o at
      (code_text
      (native_text ks src (Owner.native_of (body_key b)) n (code_from ks b (j + records_in n) fs))) o' r
      → Onward o at (code_from ks b j (Form.native n ∷ fs)) end o' r
  exit_step n src fs q w =
      by _ end w
      (λ k. code_native ks b j n fs k
      ∙ ap (λ (a : ℕ). flat
      (code_text
      (native_text ks a (Owner.native_of (body_key b)) n (code_from ks b (j + records_in n) fs))) k) q)

  -- lines in braces, after a condition or not
  pub lowered_step : (al : Bool) (t : Lines) (e : Expr) (l : Lines) (fs : List Form)
      → Wrote o at (lines_text 4 t ▸ lowered al e l) o' r
      → Onward o at (code_from ks b j (Form.native (cond al (straight t l) (straight_if t e l)) ∷ fs))
      (code_from ks b (j + 1) fs) o' r
  lowered_step true t e l fs w =
      by _ _ w
      (λ k. code_native ks b j (straight t l) fs k
      ∙ straight_text ks b.addr (Owner.native_of (body_key b)) t l (code_from ks b (j + 1) fs) k)
  lowered_step false t e l fs w =
      by _ _ w
      (λ k. code_native ks b j (straight_if t e l) fs k
      ∙ straight_if_text ks b.addr (Owner.native_of (body_key b)) t e l
      (code_from ks b (j + 1) fs) k)

  -- a branch that is always taken, from the block's address
  pub jump_step : (al : Bool) (t u : Lines) (e : Expr) (l : List Plain) (key src : ℕ)
      (fs : List Form) → al ≡ true → b.addr ≡ src
      → Wrote o at
      (code_text
      (native_text ks src (Owner.native_of (body_key b)) (jump t key) (code_from ks b (j + 1) fs))) o'
      r
      → Onward o at (code_from ks b j (Form.native (cond al (jump t key) (branch_if u e l key)) ∷ fs))
      end o' r
  jump_step true t u e l key src fs p q w = exit_step (jump t key) src fs q w
  jump_step false t u e l key src fs p q w = absurd (true≢false (sym p))

  -- a branch after a condition
  pub branch_step : (al : Bool) (t u : Lines) (e : Expr) (l : List Plain) (key src : ℕ)
      (fs : List Form) → al ≡ false → b.addr ≡ src
      → Wrote o at
      ((lines_text 4 u ▸ before_condition ▸ expr_text e) ▸ after_condition
      ▸ code_text
      (sp 1 ⨾ line (Owner.native_of (body_key b)) l
      (nl ⨾ transfer ks src (Owner.native_of (body_key b)) 8 key (sp 6 ⨾ end))) ▸ after_conditional)
      o' r
      → Onward o at (code_from ks b j (Form.native (cond al (jump t key) (branch_if u e l key)) ∷ fs))
      (code_from ks b (j + 1) fs) o' r
  branch_step true t u e l key src fs p q w = absurd (true≢false p)
  branch_step false t u e l key src fs p q w =
      by _ _ w
      (λ k. code_native ks b j (branch_if u e l key) fs k
      ∙ branch_text ks b.addr (Owner.native_of (body_key b)) u e l key (code_from ks b (j + 1) fs)
      k
      ∙ ap (λ (n : ℕ). flat
      (((lines_text 4 u ▸ before_condition ▸ expr_text e) ▸ after_condition
      ▸ code_text
      (sp 1 ⨾ line (Owner.native_of (body_key b)) l
      (nl ⨾ transfer ks n (Owner.native_of (body_key b)) 8 key (sp 6 ⨾ end))) ▸ after_conditional)
      ▸ code_text (code_from ks b (j + 1) fs)) k) q)

  -- a shell that has others after it
  pub shell_step : (high last : Bool) (t : Lines) (key : ℕ) (fs : List Form) → last ≡ is_empty fs
      → last ≡ false
      → Wrote o at (code_text (lines common 4 t (shell_code b j key end))) o' r
      → Onward o at (code_from ks b j (shell high t key ∷ fs))
      (cond (not high && last) end (code_from ks b (j + 1) fs)) o' r
  shell_step high last t key [] p q w = absurd (true≢false (sym p ∙ q))
  shell_step high true t key (f ∷ fs) p q w = absurd (true≢false q)
  shell_step true false t key (f ∷ fs) p q w = by _ _ w (λ k. code_shell ks b j true t key f fs k)
  shell_step false false t key (f ∷ fs) p q w = by _ _ w (λ k. code_shell ks b j false t key f fs k)

  -- the last shell; after an unfused half stands the closing transfer
  pub last_step : (high last : Bool) (t : Lines) (key : ℕ) (fs : List Form) → last ≡ is_empty fs
      → last ≡ true
      → Wrote o at (code_text (lines common 4 t (sp 4 ⨾ ret_interp (body_key b) j ⨾ nl ⨾ end))) o' r
      → Onward o at (code_from ks b j (shell high t key ∷ fs))
      (cond (not high && last) end (code_from ks b (j + 1) fs)) o' r
  unfolding code_from
  last_step high last t key (f ∷ fs) p q w = absurd (true≢false (sym q ∙ p))
  last_step high false t key [] p q w = absurd (true≢false (sym q))
  last_step true true t key [] p q w = by _ _ w (λ k. code_last ks b j true t key k)
  last_step false true t key [] p q w = by _ _ w (λ k. code_last ks b j false t key k)

  -- the end of a block, by the cycles pending there and where it goes on
  pub closing_step : (cycles next key src : ℕ) → closing_lines b ≡ flush_ticks cycles ++ pc_line next
      → key_plus (body_end b) b.thumb ≡ key → b.addr ≡ src
      → Wrote o at (code_text (exit_code ks src common (flush_ticks cycles ++ pc_line next) key)) o' r
      → Onward o at (code_from ks b j []) end o' r
  unfolding code_from
  closing_step cycles next key src p q e w =
      by _ end w
      (λ k. closing_text ks b cycles next key k p q
      ∙ ap (λ (a : ℕ). flat (code_text (exit_code ks a common (flush_ticks cycles ++ pc_line next) key))
      k) e)

-- a branch by its key and the address after it
pub branch_form : (thumb : Bool) (cycles : ℕ) (i : Instr) (link : Bool) (target back key : ℕ)
    → back ≡ (i.addr + 4) % 2 ^ 32
    → key ≡ key_of target thumb
    → cond (is_al i.cond)
    (jump (flush_ticks cycles ++ each_on_line (branch_regs link back target)) key)
    (branch_if (flush_ticks cycles) (cond_expr i.cond) (branch_regs link back target) key)
    ≡ emit_branch thumb cycles i link target
branch_form thumb cycles i link target back key p q =
    ap (λ (n : ℕ). cond (is_al i.cond)
    (jump (flush_ticks cycles ++ each_on_line (branch_regs link n target)) key)
    (branch_if (flush_ticks cycles) (cond_expr i.cond) (branch_regs link n target) key)) p
    ∙ ap (λ (n : ℕ). cond (is_al i.cond)
    (jump (flush_ticks cycles ++ each_on_line (branch_regs link ((i.addr + 4) % 2 ^ 32) target)) n)
    (branch_if (flush_ticks cycles) (cond_expr i.cond)
    (branch_regs link ((i.addr + 4) % 2 ^ 32) target) n)) q
