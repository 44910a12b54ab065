-- Conditions: the flags as locals, and what the test of each condition gives.
use mathlib.Core.Path.{◌≡◌, refl, ap, ◌∙◌, subst}
use mathlib.Core.Bool.{Bool, true, false}
use mathlib.Core.List.{List}
use mathlib.Core.Option.{some}
use Prim.Native.Nat.{ℕ, ◌+◌, ◌*◌, ◌/◌, ◌%◌, ◌^◌, ◌<◌}
use native.Mathlib.Omega.{arith}
use lib.Dec.{T}
use Rattle.base_words.specs.Word.{AND, one_if}
use Rattle.base_words.proofs.Bits.{and_mask}
use Rattle.armv4t.specs.declared.Cond.{Cond}
use Rattle.armv4t.specs.declared.Cond.TheVariants.{Eq, Ne, Cs, Cc, Mi, Pl, Vs, Vc, Hi, Ls, Ge, Lt}
use Rattle.armv4t.specs.declared.Cond.TheVariants.{Gt, Le, Al, Nv}
use Rattle.c_tree.specs.Expr.{x-s, x-cn, x-cz, x-cc, x-cv}
use Rattle.c_meaning.specs.State.{State, Scope, empty, enter}
use Rattle.c_meaning.specs.Eval.{eval, eval_as}
use Rattle.c_meaning.specs.Exec.{exec, others}
use Rattle.c_meaning.specs.Perform.{execs, perform}
use Rattle.c_meaning.specs.Helpers.{rotated}
use Rattle.lower_forms.specs.Operands.{cond_expr, flags}
use Rattle.armv4t_manual.specs.Machine.{Machine, pack, set_flags, Sound}
use Rattle.armv4t_manual.specs.Conditions.{passed}
use Rattle.armv4t_manual.specs.Unsaid.{is_nv}
use Rattle.lower_forms.specs.Agree.{Agrees}
use Rattle.lower_forms.proofs.Operands.{pack_c, one_lt}
use Rattle.lower_forms.proofs.Steps.{given, within}

module _ (n z c v : Bool) (low : ℕ) (h : low < 2 ^ 28) where
  pub pack_n : pack n z c v low / 2 ^ 31 ≡ one_if n
  pack_n = go (one_if n) (one_if z) (one_if c) (one_if v) (one_lt z) (one_lt c) (one_lt v)
    where
      go : (n z c v : ℕ) → z < 2 → c < 2 → v < 2
          → ((n * 8 + z * 4 + c * 2 + v) * 268435456 + low) / 2147483648 ≡ n
      go n z c v hz hc hv = omega arith

  pub pack_z : pack n z c v low / 2 ^ 30 % 2 ≡ one_if z
  pack_z = go (one_if n) (one_if z) (one_if c) (one_if v) (one_lt z) (one_lt c) (one_lt v)
    where
      go : (n z c v : ℕ) → z < 2 → c < 2 → v < 2
          → ((n * 8 + z * 4 + c * 2 + v) * 268435456 + low) / 1073741824 % 2 ≡ z
      go n z c v hz hc hv = omega arith

  pub pack_v : pack n z c v low / 2 ^ 28 % 2 ≡ one_if v
  pack_v = go (one_if n) (one_if z) (one_if c) (one_if v) (one_lt v)
    where
      go : (n z c v : ℕ) → v < 2
          → ((n * 8 + z * 4 + c * 2 + v) * 268435456 + low) / 268435456 % 2 ≡ v
      go n z c v hv = omega arith

-- the scope after the declarations of the flags; x is c[16]
abbrev pub flag_scope : Bool → Bool → Bool → Bool → ℕ → Scope
flag_scope n z c v x =
    given x-cv (one_if v)
    (given x-cc (one_if c) (given x-cz (one_if z) (given x-cn (one_if n) (given x-s x empty))))

-- the test, where cn, cz, cc and cv hold the flags
pub test_ok : (k : Cond) (n z c v : Bool) (x : ℕ) → is_nv k ≡ false
    → (fs : List Scope) (s : State) (m : Machine)
    → eval rotated (cond_expr k) (within (flag_scope n z c v x) fs s)
    ≡ some (one_if (passed k (set_flags n z c v m)))
unfolding eval
test_ok Eq n z c v x nv fs s m = refl
test_ok Ne n true c v x nv fs s m = refl
test_ok Ne n false c v x nv fs s m = refl
test_ok Cs n z c v x nv fs s m = refl
test_ok Cc n z true v x nv fs s m = refl
test_ok Cc n z false v x nv fs s m = refl
test_ok Mi n z c v x nv fs s m = refl
test_ok Pl true z c v x nv fs s m = refl
test_ok Pl false z c v x nv fs s m = refl
test_ok Vs n z c v x nv fs s m = refl
test_ok Vc n z c true x nv fs s m = refl
test_ok Vc n z c false x nv fs s m = refl
test_ok Hi n true true v x nv fs s m = refl
test_ok Hi n true false v x nv fs s m = refl
test_ok Hi n false true v x nv fs s m = refl
test_ok Hi n false false v x nv fs s m = refl
test_ok Ls n true true v x nv fs s m = refl
test_ok Ls n true false v x nv fs s m = refl
test_ok Ls n false true v x nv fs s m = refl
test_ok Ls n false false v x nv fs s m = refl
test_ok Ge true z c true x nv fs s m = refl
test_ok Ge true z c false x nv fs s m = refl
test_ok Ge false z c true x nv fs s m = refl
test_ok Ge false z c false x nv fs s m = refl
test_ok Lt true z c true x nv fs s m = refl
test_ok Lt true z c false x nv fs s m = refl
test_ok Lt false z c true x nv fs s m = refl
test_ok Lt false z c false x nv fs s m = refl
test_ok Gt true true c true x nv fs s m = refl
test_ok Gt true true c false x nv fs s m = refl
test_ok Gt false true c true x nv fs s m = refl
test_ok Gt false true c false x nv fs s m = refl
test_ok Gt true false c true x nv fs s m = refl
test_ok Gt true false c false x nv fs s m = refl
test_ok Gt false false c true x nv fs s m = refl
test_ok Gt false false c false x nv fs s m = refl
test_ok Le true true c true x nv fs s m = refl
test_ok Le true true c false x nv fs s m = refl
test_ok Le false true c true x nv fs s m = refl
test_ok Le false true c false x nv fs s m = refl
test_ok Le true false c true x nv fs s m = refl
test_ok Le true false c false x nv fs s m = refl
test_ok Le false false c true x nv fs s m = refl
test_ok Le false false c false x nv fs s m = refl
test_ok Al n z c v x nv fs s m = refl
test_ok Nv n z c v x nv fs s m = absurd (subst T nv tt)

module _ {z : State} {m : Machine} (s : Sound m) (a : Agrees z m) where
  -- the state after the declarations, by the values of the locals
  abbrev flag_state : ℕ → ℕ → ℕ → ℕ → ℕ → State
  flag_state x n zf c v =
      within (given x-cv v (given x-cc c (given x-cz zf (given x-cn n (given x-s x empty)))))
      z.scopes z

  -- (s_ >> k) & 1u
  flag_bit_lem : (k : ℕ) (b : Bool)
      → pack m.n m.z m.c m.v m.other_bits / 2 ^ k % 2 ≡ one_if b
      → AND (z.c 16 / 2 ^ k) 1 ≡ one_if b
  flag_bit_lem k b e = and_mask (z.c 16 / 2 ^ k) 1 ∙ ap (λ (x : ℕ). x / 2 ^ k % 2) a.flags ∙ e

  -- uint32_t s_ = c[16]; uint32_t cn = s_ >> 31, cz = (s_ >> 30) & 1u, cc = (s_ >> 29) & 1u, cv =
  -- (s_ >> 28) & 1u;
  pub declared : perform flags (enter z)
      ≡ some (within
      (flag_scope m.n m.z m.c m.v (pack m.n m.z m.c m.v m.other_bits))
      z.scopes z)
  unfolding perform execs exec others eval_as eval
  declared =
      λ j. some
      (flag_state (a.flags j)
      ((ap (λ (x : ℕ). x / 2 ^ 31) a.flags
      ∙ pack_n m.n m.z m.c m.v m.other_bits s.other_bits) j)
      (flag_bit_lem 30 m.z (pack_z m.n m.z m.c m.v m.other_bits s.other_bits) j)
      (flag_bit_lem 29 m.c (pack_c m.n m.z m.c m.v m.other_bits s.other_bits) j)
      (flag_bit_lem 28 m.v (pack_v m.n m.z m.c m.v m.other_bits s.other_bits) j))
