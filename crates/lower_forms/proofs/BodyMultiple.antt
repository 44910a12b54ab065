-- What the lines of load and store multiple mean.
use mathlib.Core.Path.{◌≡◌, refl, sym, ap, ◌∙◌, subst}
use mathlib.Core.Bool.{Bool, true, false, cond, ◌&&◌, ◌||◌}
use mathlib.Core.List.{List}
use mathlib.Core.Option.{none, some}
use Prim.Native.Nat.{ℕ, ◌*◌, ◌≤◌, ◌<◌}
use native.Mathlib.Omega.{arith}
use lib.Dec.{eqb}
use lib.ListN.{length}
use Rattle.base_words.specs.Word.{bit}
use Rattle.armv4t.specs.declared.Op.TheVariants.{BlockMem}
use Rattle.armv4t.specs.declared.Instr.{Instr}
use Rattle.armv4t.specs.Instr.{pc_value}
use Rattle.armv4t.specs.RegisterList.{is_listed}
use Rattle.c_meaning.specs.State.{State, enter}
use Rattle.lower_forms.specs.Forms.{Lines}
use Rattle.lower_forms.specs.InlineBody.{block_mem_body}
use Rattle.lower_forms.specs.InlineBody as F
use Rattle.armv4t_manual.specs.Machine.{Machine, Sound}
use Rattle.armv4t_manual.specs.Machine as M
use Rattle.armv4t.specs.InRange.{InRange}
use Rattle.armv4t_manual.specs.Transfer.{moved}
use Rattle.armv4t_manual.specs.Multiple.{listed, start, load_all, load_multiple, store_multiple}
use Rattle.armv4t_manual.specs.Execute.{onward, load_multiple_pc}
use Rattle.lower_forms.specs.Agree.{Agrees}
use Rattle.lower_forms.specs.Means.{Makes, statements, Leads, OpMeans}
use Rattle.lower_forms.proofs.Operands.{under}
use Rattle.lower_forms.proofs.Body.{some_same, not_none, or_l, or_r}
use Rattle.lower_forms.proofs.Listed.{listed_same, listed_length, listed_15, Named}
use Rattle.lower_forms.proofs.Listed.{listed_named, member, named_member}
use Rattle.lower_forms.proofs.Multiple.{load_multiple_ok, store_multiple_ok}
use Rattle.base_lists.proofs.Each.{Each, each_map}

four : (k : ℕ) → k ≤ 16 → k * 4 < 4294967296
four k h = omega arith

module _ (i : Instr) {z : State} {m : Machine} (s : Sound m) (a : Agrees z m) (rn : ℕ)
    (hn : rn < 15) (rlist : ℕ) (pre up wb : Bool) where
  -- LDM without R15
  load_lines : bit rlist 15 ≡ false
      → Makes (statements (block_mem_body i true rn (is_listed rlist rn) pre up wb (listed rlist 16)))
      (enter z) (load_multiple up pre wb rn rlist m)
  load_lines q =
      subst (λ (is : List ℕ). Makes
      (statements (block_mem_body i true rn (is_listed rlist rn) pre up wb (listed rlist 16)))
      (enter z) (made is)) (listed_15 rlist q)
      (load_multiple_ok s a i rn hn (listed rlist 16) (four _ (listed_length rlist 16)) below up pre
      wb (is_listed rlist rn) named)
    where
      made : List ℕ → Machine
      made is =
          let k : ℕ = length (listed rlist 16) in
          let m1 : Machine = cond wb (M.set_reg rn (moved up (m.r rn) (k * 4)) m) m in
          M.set_regs (load_all is (start up pre (m.r rn) k) m.mem m1.r) m

      below : Each (λ j. j < 15) (listed rlist 16)
      below =
          subst (Each (λ j. j < 15)) (sym (listed_15 rlist q))
          (each_map (Named rlist 15) (λ j. j < 15) (λ j h. h.0) (listed rlist 15)
          (listed_named rlist 15))

      named : is_listed rlist rn ≡ true → member rn (listed rlist 16) ≡ true
      named e = named_member rlist 16 rn (omega (arith, hn)) e

  -- STM
  store_lines : Makes
      (statements (block_mem_body i false rn (is_listed rlist rn) pre up wb (listed rlist 16)))
      (enter z) (store_multiple up pre wb rn rlist (pc_value i) m)
  store_lines =
      store_multiple_ok s a i rn hn (listed rlist 16) (four _ (listed_length rlist 16)) up pre wb
      (is_listed rlist rn)
      (each_map (Named rlist 16) _ at_most (listed rlist 16) (listed_named rlist 16))
    where
      at_most : (j : ℕ) → Named rlist 16 j → j ≤ 15
      at_most j h = omega (arith, h.0)

-- BlockMem
pub block_mem_means : (i : Instr) (ld : Bool) (rn rlist : ℕ) (pre up s_bit wb : Bool)
    → InRange (BlockMem ld rn rlist pre up s_bit wb)
    → OpMeans i (BlockMem ld rn rlist pre up s_bit wb)
block_mem_means i ld rn rlist pre up s_bit wb r ls q z m s a bad d next o =
    split (s_bit || eqb rlist 0 || eqb rn 15 || (ld && is_listed rlist 15)) refl q s_bit o
  where
    out : Bool → Machine × ℕ
    out l =
        cond l (cond (bit rlist 15) (load_multiple_pc i up pre wb rn rlist m)
        (onward i (load_multiple up pre wb rn rlist m)))
        (onward i (store_multiple up pre wb rn rlist (pc_value i) m))

    body : Bool → Lines
    body l = block_mem_body i l rn (is_listed rlist rn) pre up wb (listed rlist 16)

    means : (l : Bool) → rn < 15 → (l && is_listed rlist 15) ≡ false → Leads i (body l) z (out l)
    means true hn pc =
        subst (λ (b : Bool). Leads i (body true) z
        (cond b (load_multiple_pc i up pre wb rn rlist m)
        (onward i (load_multiple up pre wb rn rlist m)))) (sym pc)
        (load_lines i s a rn hn rlist pre up wb pc, refl)
    means false hn pc = (store_lines i s a rn hn rlist pre up wb, refl)

    split : (b : Bool) → (s_bit || eqb rlist 0 || eqb rn 15 || (ld && is_listed rlist 15)) ≡ b
        → cond b none
        (some (block_mem_body i ld rn (is_listed rlist rn) pre up wb (F.listed rlist 16)))
        ≡ some ls
        → (c : Bool) → cond c none (some (out ld)) ≡ some next → Leads i ls z next
    split true e q c o = absurd (not_none q)
    split false e q true o = absurd (not_none o)
    split false e q false o =
        let hn : rn < 15 =
        under rn r.0
        (or_r (s_bit || eqb rlist 0) (eqb rn 15)
        (or_l (s_bit || eqb rlist 0 || eqb rn 15) (ld && is_listed rlist 15) e)) in
        subst (λ (n : Machine × ℕ). Leads i ls z n) (some_same o)
        (subst (λ (k : Lines). Leads i k z (out ld))
        (ap (λ (is : List ℕ). block_mem_body i ld rn (is_listed rlist rn) pre up wb is)
        (sym (listed_same rlist 16)) ∙ some_same q)
        (means ld hn (or_r (s_bit || eqb rlist 0 || eqb rn 15) (ld && is_listed rlist 15) e)))
