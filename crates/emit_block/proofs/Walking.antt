-- The walk over the records of a block: none, one more, all.
-- Assumes nothing.
use Rattle.std.proofs.Common.{◌≡◌, ℕ, suc, ◌+◌, ◌*◌, ◌%◌, ◌^◌, ◌≤◌, Bool, true, false, cond, List, [], ◌++◌, length, drop, sym, refl, ap, ◌∙◌, subst, ap₂}
use package.native.Mathlib.Numerals.{add-one}
use package.native.Mathlib.Omega.{arith}
use Rattle.armv4t.specs.Instr.{size_of}
use Rattle.file_records.specs.BlockRecord.{length_of, key_plus}
use Rattle.file_blocks.specs.declared.read.BlockRecord.{BlockRecord}
use Rattle.file_blocks.specs.Read.{IsBlock}
use Rattle.file_blocks.specs.Address.{key_of}
use Rattle.file_blocks.proofs.OwnKey.{key_plus_lem}
use Rattle.base_text.specs.Wrote.{Wrote, max_usize}
use Rattle.c_tree.specs.Stmt.{end}
use Rattle.c_tree.specs.Print.{code_text}
use Rattle.lower_forms.specs.Forms.{Form, Body}
use Rattle.lower_forms.specs.Block.{flush_ticks, emit_instrs, pc_line}
use Rattle.file_blocks.specs.Address.{region}
use Rattle.lower_units.specs.Block.{body_end, closing_lines, code_from}
use Rattle.emit_instr.specs.declared.step.Step.{Step}
use Rattle.emit_instr.specs.Onward.{Onward}
use Rattle.emit_instr.proofs.Onward.{stay, then, finish}
use Rattle.file_blocks.specs.Read.{instrs_of}
use Rattle.file_blocks.proofs.ReadInstrs.{drop_all}
use Rattle.emit_block.specs.Walk.{forms_from, IsBody, Recorded, Walked}

module _ {f : List ℕ} {r : BlockRecord} {first : ℕ} {ks : List ℕ} {b : Body} {out : List ℕ} {at : ℕ}
  where
    -- no record yet
    pub walked_none : IsBody f r first b → length out ≤ max_usize → at ≤ max_usize
        → Walked f r first ks b out at 0 0 out at
    walked_none body small fits =
        record {
          onward =
              subst (λ (fs : List Form). Onward out at (code_from ks b 0 b.forms)
              (code_from ks b 0 fs) out at) body.forms
              (stay (code_from ks b 0 b.forms) small fits);
          same = refl;
          few = omega arith;
        }

    module _ {j cycles : ℕ} {out₁ : List ℕ} {p : ℕ}
        (walked : Walked f r first ks b out at j cycles out₁ p) where
      -- one record more
      pub walked_more : {out₂ : List ℕ} {s : Step} → Recorded f r first ks b j cycles out₁ p out₂ s
          → s.done ≡ false
          → Walked f r first ks b out at (j + 1) s.cycles out₂ s.at
      walked_more {out₂} {s} recorded goes =
          let next : Onward out₁ p (code_from ks b j (forms_from f r first j cycles).0)
          (code_from ks b (suc j) (forms_from f r first (suc j) s.cycles).0) out₂ s.at =
          subst (λ (d : Bool). Onward out₁ p (code_from ks b j (forms_from f r first j cycles).0)
          (cond d end (code_from ks b (suc j) (forms_from f r first (suc j) s.cycles).0)) out₂
          s.at) goes recorded.onward in
          let all : Walked f r first ks b out at (suc j) s.cycles out₂ s.at =
          record {
            onward = then walked.onward next;
            same = sym (recorded.same goes)
                ∙ walked.same;
            few = omega (arith, recorded.few, walked.few);
          } in
          subst (λ (n : ℕ). Walked f r first ks b out at n s.cycles out₂ s.at)
          (sym (add-one j))
          all

      -- a record after which nothing stands
      pub walked-done : {out₂ : List ℕ} {s : Step} → Recorded f r first ks b j cycles out₁ p out₂ s
          → s.done ≡ true
          → Wrote out at (code_text (code_from ks b 0 b.forms)) out₂ s.at
      walked-done {out₂} {s} recorded done =
          finish (then walked.onward
          (subst (λ (d : Bool). Onward out₁ p (code_from ks b j (forms_from f r first j cycles).0)
          (cond d end (code_from ks b (suc j) (forms_from f r first (suc j) s.cycles).0)) out₂
          s.at) done recorded.onward))

      -- all records: no form is left, and the cycles pending are those of the whole block
      nothing_left : j ≡ r.count → forms_from f r first j cycles ≡ ([], cycles)
      unfolding emit_instrs
      nothing_left e =
          ap (emit_instrs r.thumb (region r.addr) cycles)
          (ap (λ (n : ℕ). drop n (instrs_of f r first)) e
          ∙ drop_all f r.thumb r.count first r.addr)

      pub walked-cycles : j ≡ r.count → cycles ≡ (forms_from f r first 0 0).1
      walked-cycles e = sym (ap (λ (p : List Form × ℕ). p.1) (nothing_left e)) ∙ walked.same

      pub walked_end : {out₂ : List ℕ} {q : ℕ} → j ≡ r.count
          → Onward out₁ p (code_from ks b j []) end out₂ q
          → Wrote out at (code_text (code_from ks b 0 b.forms)) out₂ q
      walked_end {out₂} {q} e last =
          finish (then walked.onward
          (subst (λ (n : List Form × ℕ). Onward out₁ p (code_from ks b j n.0) end out₂ q)
          (sym (nothing_left e)) last))

-- where the closing transfer of a block goes
module _ {f : List ℕ} {i : ℕ} {r : BlockRecord} {first : ℕ} {b : Body} (is : IsBlock f i r first)
    (body : IsBody f r first b) where
  end_address : (thumb : Bool) (addr count : ℕ)
      → (addr + length_of count thumb) % 2 ^ 32 ≡ (addr + size_of thumb * count) % 2 ^ 32
  end_address true addr count = omega arith
  end_address false addr count = omega arith

  -- the lines before it set PC to the address after the block
  pub end_lines : (cycles next : ℕ) → cycles ≡ (forms_from f r first 0 0).1
      → next ≡ (r.addr + size_of r.thumb * r.count) % 2 ^ 32
      → closing_lines b ≡ flush_ticks cycles ++ pc_line next
  end_lines cycles next pending e =
      rw (body.addr, body.thumb, body.count)
      (ap₂ (λ (c a : ℕ). flush_ticks c ++ pc_line a) (body.pending ∙ sym pending)
      (end_address r.thumb r.addr r.count ∙ sym e))

  end_even : (thumb : Bool) (addr count : ℕ) → key_of addr thumb ≡ key_plus addr thumb
      → key_plus ((addr + length_of count thumb) % 2 ^ 32) thumb
      ≡ key_of ((addr + size_of thumb * count) % 2 ^ 32) thumb
  end_even true addr count e = omega (arith, e)
  end_even false addr count e = omega (arith, e)

  -- its target is the key of that address
  pub end_key : (next key : ℕ) → next ≡ (r.addr + size_of r.thumb * r.count) % 2 ^ 32
      → key ≡ key_of next r.thumb
      → key_plus (body_end b) b.thumb ≡ key
  end_key next key e k =
      rw (body.addr, body.thumb, body.count)
      (end_even r.thumb r.addr r.count (key_plus_lem is)
      ∙ ap (λ (n : ℕ). key_of n r.thumb) (sym e) ∙ sym k)
