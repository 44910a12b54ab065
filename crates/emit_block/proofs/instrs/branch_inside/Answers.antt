-- `branch_inside` looks for the target of a Branch, number 5.
-- Assumes nothing.
use Rattle.std.proofs.Common.{ℕ, Bool, false, List, [], ◌∷◌, sym, ap, ◌∙◌, subst}
use types.Run.{OneOf, miss}
use denote.Enum.Declared.{tag_of}
use Rattle.armv4t.specs.declared.Op.{Op}
use Rattle.armv4t.proofs.Arms.{others}
use Rattle.armv4t.specs.contracts.Op.{the_type}
use Rattle.base_lists.specs.Lists.{among}
use Rattle.emit_instr.specs.Steps.{BranchInside}
use borrow.Enum.Refused.{opened}
use Rattle.emit_block.proofs.instrs.branch_inside.Goals as goal

-- nothing is asked of an operation that is no Branch
elsewhere : (ks : List ℕ) (thumb : Bool) (op : Op) → OneOf (others 15 (5 ∷ [])) (tag_of the_type op)
    → BranchInside ks thumb false op
elsewhere ks thumb (Op.Alu _ _ _ _ _) o = Prim.tt
elsewhere ks thumb (Op.Mul _ _ _ _ _ _) o = Prim.tt
elsewhere ks thumb (Op.MulLong _ _ _ _ _ _ _) o = Prim.tt
elsewhere ks thumb (Op.Swap _ _ _ _) o = Prim.tt
elsewhere ks thumb (Op.Bx _) o = Prim.tt
elsewhere ks thumb (Op.Branch _ _) o = absurd (miss (others 15 (5 ∷ [])) 5 Prim.tt o)
elsewhere ks thumb (Op.ThumbBlHigh _) o = Prim.tt
elsewhere ks thumb (Op.ThumbBlLow _) o = Prim.tt
elsewhere ks thumb (Op.Mem _ _ _ _ _ _ _ _ _) o = Prim.tt
elsewhere ks thumb (Op.BlockMem _ _ _ _ _ _ _) o = Prim.tt
elsewhere ks thumb (Op.Mrs _ _) o = Prim.tt
elsewhere ks thumb (Op.MsrReg _ _ _) o = Prim.tt
elsewhere ks thumb (Op.MsrImm _ _ _) o = Prim.tt
elsewhere ks thumb (Op.Swi _) o = Prim.tt
elsewhere ks thumb (Op.Undefined _) o = Prim.tt

pub returns-in-Branch : goal.returns-in-Branch
returns-in-Branch c =
    λ ks s. subst
    (BranchInside ks c.args.thumb
    c.is_inside.result) (sym c.in-Branch.is)
    (ap (λ (k : ℕ). among k ks) (sym c.key_of.ensures) ∙ c.is_inside.ensures ks s)

pub returns-in_default : goal.returns-in_default
returns-in_default c =
    λ ks s. elsewhere ks c.args.thumb
    c.args.op (opened c.in_default.in_default-own.keys2)
