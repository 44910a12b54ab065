-- Steps: what the contract of a function says that writes one form of a block (the text, the cycles
-- pending after it), and what it asks of a branch's target.
use Rattle.std.specs.Prelude.{◌≡◌, ℕ, ◌+◌, Bool, true, false, cond, List, ◌∷◌}
use Rattle.armv4t.specs.declared.Op.{Op}
use Rattle.armv4t.specs.declared.Op.TheVariants.{Alu, Mul, MulLong, Swap, Bx, Branch, ThumbBlHigh}
use Rattle.armv4t.specs.declared.Op.TheVariants.{ThumbBlLow, Mem, BlockMem, Mrs, MsrReg, MsrImm}
use Rattle.armv4t.specs.declared.Op.TheVariants.{Swi, Undefined}
use Rattle.base_text.specs.Doc.{Doc, ◌▸◌}
use Rattle.c_tree.specs.Expr.{Expr}
use Rattle.c_tree.specs.Stmt.{end}
use Rattle.c_tree.specs.Print.{expr_text}
use Rattle.file_blocks.specs.Address.{key_of}
use Rattle.lower_forms.specs.Forms.{Lines, Form, Body}
use Rattle.lower_units.specs.Block.{code_from}
use Rattle.lower_units.specs.Lines.{lines_text}
use Rattle.base_lists.specs.Lists.{among}
use Rattle.emit_flow.specs.Pieces.{straight_open, straight_end, before_condition, straight_if_open}
use Rattle.emit_flow.specs.Pieces.{straight_if_end}
use Rattle.emit_instr.specs.declared.step.Step.{Step}
use Rattle.emit_instr.specs.Onward.{Onward}

-- A form was written, after which others stand, and the cycles pending after it are as said; done:
-- nothing is left to write, not even the others
pub record FormWritten (out : List ℕ) (at : ℕ) (ks : List ℕ) (b : Body) (j : ℕ) (f : Form × ℕ)
    (fs : List Form) (out' : List ℕ) (r : Step) : Type 0 where
  pub onward : Onward out at (code_from ks b j (f.0 ∷ fs))
      (cond r.done end (code_from ks b (j + 1) fs)) out' r.at
  pub cycles : r.cycles ≡ f.1

-- the key of a branch's target is among those of the group, or not; nothing is asked of other
-- operations
abbrev pub BranchInside : List ℕ → Bool → Bool → Op → Type 0
BranchInside ks thumb inside (Alu op s rd rn op2) = Unit
BranchInside ks thumb inside (Mul acc s rd rn rs rm) = Unit
BranchInside ks thumb inside (MulLong signed acc s hi lo rs rm) = Unit
BranchInside ks thumb inside (Swap byte rd rm rn) = Unit
BranchInside ks thumb inside (Bx rm) = Unit
BranchInside ks thumb inside (Branch link target) = among (key_of target thumb) ks ≡ inside
BranchInside ks thumb inside (ThumbBlHigh lr) = Unit
BranchInside ks thumb inside (ThumbBlLow off) = Unit
BranchInside ks thumb inside (Mem load width signed rd rn offset pre up writeback) = Unit
BranchInside ks thumb inside (BlockMem load rn rlist pre up s_bit writeback) = Unit
BranchInside ks thumb inside (Mrs spsr rd) = Unit
BranchInside ks thumb inside (MsrReg spsr fields rm) = Unit
BranchInside ks thumb inside (MsrImm spsr fields value) = Unit
BranchInside ks thumb inside (Swi imm) = Unit
BranchInside ks thumb inside (Undefined raw) = Unit

-- the text of lines in braces, after the condition e unless it always holds (true)
abbrev pub lowered : Bool → Expr → Lines → Doc
lowered true e l = straight_open ▸ lines_text 8 l ▸ straight_end
lowered false e l = before_condition ▸ expr_text e ▸ straight_if_open ▸ lines_text 8 l ▸ straight_if_end
