-- Steps: the walk over the records of a block, what is known of the block, and what of its code is
-- still to be written.
use Rattle.std.specs.Prelude.{◌≡◌, ℕ, suc, ◌+◌, ◌*◌, ◌<◌, ◌≤◌, false, cond, List, drop}
use Rattle.file_blocks.specs.declared.read.BlockRecord.{BlockRecord}
use Rattle.file_blocks.specs.Read.{IsBlock, instrs_of}
use Rattle.plan_members.specs.Members.{keys_within}
use Rattle.plan_members.specs.GroupRows.{HasRow, IsGroup}
use Rattle.c_tree.specs.Stmt.{end}
use Rattle.lower_forms.specs.Forms.{Form, Body}
use Rattle.lower_forms.specs.Block.{emit_instrs}
use Rattle.file_blocks.specs.Address.{region}
use Rattle.lower_units.specs.Block.{code_from}
use Rattle.emit_block.specs.declared.member.Member.{Member}
use Rattle.emit_block.specs.declared.member.MemberBlock.{MemberBlock}
use Rattle.emit_instr.specs.declared.step.Step.{Step}
use Rattle.emit_instr.specs.Onward.{Onward}

-- the forms of its instructions from index j on with cycles pending before them, and the cycles
-- pending after them
abbrev pub forms_from : List ℕ → BlockRecord → ℕ → ℕ → ℕ → List Form × ℕ
forms_from f r first j cycles =
    emit_instrs r.thumb (region r.addr) cycles (drop j (instrs_of f r first))

-- a body is that of a block, whatever its hash: what is measured has 0 in its place
pub record IsBody (f : List ℕ) (r : BlockRecord) (first : ℕ) (b : Body) : Type 0 where
  pub addr : b.addr ≡ r.addr
  pub thumb : b.thumb ≡ r.thumb
  pub count : b.count ≡ r.count
  pub forms : b.forms ≡ (forms_from f r first 0 0).0
  pub pending : b.pending ≡ (forms_from f r first 0 0).1

-- where a block stands in the plan that the work numbers have: ks are the keys that a transfer goes
-- to by a goto, those of its group where `several` is true, and none where it is false
pub record IsMember (f work : List ℕ) (m : Member) (ks : List ℕ) : Type 0 where
  pub limit : ℕ
  pub group : ℕ
  pub rows : IsGroup f limit work group m.rows
  pub inside : m.index < m.rows.blocks
  pub keys : ks ≡ keys_within m.several limit f group

-- the work numbers have the row of a block
abbrev pub HasBlock : List ℕ → List ℕ → Member → Type 0
HasBlock f work m = HasRow f work m.rows m.place × (m.index < m.rows.blocks)

-- a block of an accepted file, as the walk has it
pub record IsMemberBlock (f work : List ℕ) (m : MemberBlock) (ks : List ℕ) (b : Body) : Type 0 where
  pub stands : IsMember f work m.member ks
  pub is : IsBlock f m.member.index m.block m.first
  pub body : IsBody f m.block m.first b

-- the record with index j was written, with cycles pending before it
pub record Recorded (f : List ℕ) (r : BlockRecord) (first : ℕ) (ks : List ℕ) (b : Body)
    (j cycles : ℕ) (out : List ℕ) (at : ℕ) (out' : List ℕ) (s : Step) : Type 0 where
  pub onward : Onward out at (code_from ks b j (forms_from f r first j cycles).0)
      (cond s.done end (code_from ks b (suc j) (forms_from f r first (suc j) s.cycles).0)) out'
      s.at
  pub same : s.done ≡ false
      → (forms_from f r first j cycles).1 ≡ (forms_from f r first (suc j) s.cycles).1
  pub few : s.cycles ≤ cycles + 65535

-- the records before index j were written, and cycles are pending
pub record Walked (f : List ℕ) (r : BlockRecord) (first : ℕ) (ks : List ℕ) (b : Body) (out : List ℕ)
    (at j cycles : ℕ) (out' : List ℕ) (p : ℕ) : Type 0 where
  pub onward : Onward out at (code_from ks b 0 b.forms)
      (code_from ks b j (forms_from f r first j cycles).0) out' p
  pub same : (forms_from f r first j cycles).1 ≡ (forms_from f r first 0 0).1
  pub few : cycles ≤ 65535 * j
