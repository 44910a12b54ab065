-- MUL and MLA: what a Mul is lowered to does what the manual says.
use mathlib.Core.Path.{◌≡◌, refl}
use mathlib.Core.Bool.{Bool, true, false, cond}
use mathlib.Core.List.{◌∷◌, ◌++◌}
use mathlib.Core.Option.{some}
use Prim.Native.Nat.{ℕ, ◌+◌, ◌*◌, ◌%◌, ◌<◌}
use native.Mathlib.Nat.{mod-lt, mod-add-mod, add-zero}
use native.Mathlib.Omega.{arith}
use lib.Dec.{eqb, lit<}
use Rattle.base_words.specs.Word.{bit}
use Rattle.c_tree.specs.Expr.{u32, x-r, reg, var, get}
use Rattle.c_tree.specs.Stmt.{plus, f-nz, set, run}
use Rattle.c_tree.specs.Preamble.{v32}
use Rattle.c_meaning.specs.State.{State, Scope, empty, value, set_c, enter}
use Rattle.lower_forms.specs.InlineBody.{list_if, set_reg, mul_body}
use Rattle.armv4t_manual.specs.Machine.{Machine, set_flags, Sound}
use Rattle.armv4t_manual.specs.Machine as M
use Rattle.armv4t_manual.specs.Multiply.{multiply}
use Rattle.lower_forms.specs.Agree.{Agrees}
use Rattle.lower_forms.specs.Means.{Makes}
use Rattle.lower_forms.proofs.Gives.{Reads, r_reg, r_mul, r_var}
use Rattle.lower_forms.proofs.Flags.{nz_ok}
use Rattle.lower_forms.proofs.Steps.{step, stop, opened, given, within, do_declare, do_plus}
use Rattle.lower_forms.proofs.Steps.{do_nz, do_reg, with_scopes, with_reg, with_flags}

-- c[r] of a register below 15
pub reg_reads : {z : State} {m : Machine} → Sound m → Agrees z m → (r : ℕ) → r < 15
    → Reads (get (reg r)) z (m.r r)
reg_reads s a r h = r_reg r (omega (arith, h)) (a.regs r h) (s.words r h)

module _ {z : State} {m : Machine} (s : Sound m) (a : Agrees z m) (rd rn rs rm : ℕ) (hd : rd < 15)
    (hs : rs < 15) (hm : rm < 15) where
  -- c[rd] = r; f_nz(c, r);
  multiply_end : (w : Bool) (x : ℕ) → x < 4294967296 → (u : State) → Agrees u m
      → value (var (u32, x-r)) u ≡ some x
      → Makes (set_reg rd (v32 x-r) ∷ list_if w (run f-nz (v32 x-r))) u
      (M.set_reg rd x (cond w (set_flags (bit x 31) (eqb x 0) m.c m.v m) m))
  multiply_end false x l u b q =
      step (do_reg (r_var (u32, x-r) refl q l) rd (omega (arith, hd))) (stop (with_reg b rd x hd))
  multiply_end true x l u b q =
      let b1 = with_reg b rd x hd in
      step (do_reg (r_var (u32, x-r) refl q l) rd (omega (arith, hd)))
      (step (do_nz (r_var (u32, x-r) refl q l)
      (nz_ok m.other_bits s.other_bits m.n m.z m.c m.v x (set_c rd x u)
      b1.flags))
      (stop (with_flags b1 (bit x 31) (eqb x 0) m.c m.v)))

  pub multiply_ok : (acc w : Bool) → (acc ≡ true → rn < 15)
      → Makes (mul_body acc w rd rn rs rm) (enter z) (multiply acc w rd rn rs rm m)
  multiply_ok acc w hn =
      let u : State = within (opened x-r empty) z.scopes z in
      step (do_declare x-r empty z.scopes z refl
      (r_mul (reg_reads {z = u} s (with_scopes a _) rm hm)
      (reg_reads {z = u} s (with_scopes a _) rs hs))) (go acc hn)
    where
      f : Scope
      f = given x-r (m.r rm * m.r rs % 4294967296) empty

      go : (c : Bool) → (c ≡ true → rn < 15)
          → Makes (list_if c (set (var (u32, x-r)) plus (get (reg rn)))
          ++ (set_reg rd (v32 x-r) ∷ list_if w (run f-nz (v32 x-r)))) (within f z.scopes z)
          (let x : ℕ = (m.r rm * m.r rs + cond c (m.r rn) 0) % 4294967296 in
          M.set_reg rd x (cond w (set_flags (bit x 31) (eqb x 0) m.c m.v m) m))
      go false h =
          rw (add-zero (m.r rm * m.r rs))
          (multiply_end w (m.r rm * m.r rs % 4294967296) (mod-lt (m.r rm * m.r rs) (lit< tt))
          (within f z.scopes z) (with_scopes a _) refl)
      go true h =
          rw (← mod-add-mod (m.r rm * m.r rs) 4294967296 (m.r rn))
          (step (do_plus x-r f z.scopes z refl
          (reg_reads {z = within f z.scopes z} s (with_scopes a _) rn (h refl)))
          (multiply_end w ((m.r rm * m.r rs % 4294967296 + m.r rn) % 4294967296)
          (mod-lt (m.r rm * m.r rs % 4294967296 + m.r rn) (lit< tt)) _ (with_scopes a _)
          refl))
