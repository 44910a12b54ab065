-- A lone block carries out no instruction twice. The state is the index after the last one carried
-- out.
use Prim.Native.Nat.{ℕ, ◌+◌, ◌≤◌, ◌<◌}
use mathlib.Core.Path.{◌≡◌}
use mathlib.Core.Bool.{Bool, true, false, cond, ◌&&◌}
use mathlib.Core.List.Memᴰ
use mathlib.Core.List.{List, [], ◌∷◌}
use native.Mathlib.Omega.{arith}
use lib.Dec.{T, leb, ltb, eqb, leb→le, ltb→lt, eqb→eq}
use Rattle.c_tree.specs.Stmt.{Top}
use Rattle.lower_forms.specs.Forms.{Body}
use Rattle.lower_units.specs.Block.{block_code}
use Rattle.lower_units.specs.Units.{with_locals}
use Rattle.claim_ways.specs.Ways.{Event, reach, said, native_start, interpreted, Way}
use Rattle.claim_ways.specs.Claim.{times_carried}
use Rattle.claim_ways.proofs.Logic.{Logic, Follow}
use Rattle.claim_ways.proofs.Emitted.{Quiet, q_native, q_none, q_other, q_gate, Rules}
use Rattle.claim_ways.proofs.Followed.{lone_follows}

abbrev ahead : ℕ → Event → ℕ
ahead s (reach o) = s
ahead s (said t x) = s
ahead s (native_start k p n) = p + n
ahead s (interpreted k p) = p + 1

abbrev rises : ℕ → Event → Type 0
rises s (reach o) = Unit {0}
rises s (said t x) = Unit {0}
rises s (native_start k p n) = s ≤ p
rises s (interpreted k p) = s ≤ p

abbrev pub Rising : Logic
Rising = record { S = ℕ; step = ahead; allow = rises; owed = λ k s. ⊥ }

quiet_of : (b : Body) (p s : ℕ) (e : Event) → s ≤ p → Quiet b e → rises s e × (ahead s e ≤ p)
quiet_of b p s e i q_native = (tt, i)
quiet_of b p s e i q_none = (tt, i)
quiet_of b p s e i q_other = (tt, i)
quiet_of b p s e i q_gate = (tt, i)

pub rising_rules : (b : Body) → Rules Rising b []
rising_rules b = record {
  Inv = λ p w s. s ≤ p;
  Pre = λ s. s ≤ 0;
  quiet = λ p w s e i q. quiet_of b p s e i q;
  carry = λ p n w s i. (i, omega arith);
  shells = λ p w s i. (i, omega arith);
  up = λ p w s k i n l. absurd (Memᴰ.not-nil n);
  back = λ p w s k o x i n. absurd (Memᴰ.not-nil n);
  free = λ s t i. i;
  asks = λ s y x i. (tt, tt, i);
  yes_of = λ s y e i. i;
  lands = λ s o. absurd o;
  defers = λ s i. (tt, i);
}

pub lone_rises : (b : Body) {ts : List Top} {xs : List Bool} {es : List Event}
    → Way ts (with_locals (block_code [] b)) (with_locals (block_code [] b)) xs es → Follow Rising es 0
unfolding rising_rules
lone_rises b w =
    lone_follows Rising b (rising_rules b) 0
    (record { first = tt; second = tt; third = tt; fourth = tt }) (omega arith) w

-- one event: none of the indices below the state, and each index at most once
both : (x y : Bool) → T (x && y) → T x × T y
both true true t = (tt, tt)
both true false t = absurd t
both false y t = absurd t

covers : (h k j p n : ℕ) → T (eqb h k && leb p j && ltb j (p + n)) → (p ≤ j) × (j < p + n)
covers h k j p n t =
    let c = both (eqb h k && leb p j) (ltb j (p + n)) t in
    (leb→le p j (both (eqb h k) (leb p j) c.0).1, ltb→lt j (p + n) c.1)

hits : (h k j p : ℕ) → T (eqb h k && eqb p j) → p ≡ j
hits h k j p t = eqb→eq p j (both (eqb h k) (eqb p j) t).1

record Few (h j s : ℕ) (es : List Event) : Type 0 where
  below : j < s → times_carried h j es ≤ 0
  twice : times_carried h j es ≤ 1

add : (h j s r : ℕ) (es : List Event) (x : Bool) → (T x → (s ≤ j) × (j < r)) → s ≤ r → Few h j r es
    → (j < s → cond x 1 0 + times_carried h j es ≤ 0) × (cond x 1 0 + times_carried h j es ≤ 1)
add h j s r es true f l k = let c = f tt in (λ m. omega arith, omega (arith, k.below c.1))
add h j s r es false f l k = (λ m. omega (arith, k.below (omega arith)), omega (arith, k.twice))

few : (h j : ℕ) (es : List Event) (s : ℕ) → Follow Rising es s → Few h j s es
few h j [] s f = record { below = λ l. omega arith; twice = omega arith }
few h j (reach o ∷ es) s f =
    let k = few h j es s f.1 in record { below = k.below; twice = k.twice }
few h j (said t x ∷ es) s f =
    let k = few h j es s f.1 in record { below = k.below; twice = k.twice }
few h j (native_start k p n ∷ es) s f =
    let l : s ≤ p = f.0 in
    let a =
    add h j s (p + n) es (eqb h k && leb p j && ltb j (p + n))
    (λ t. omega (arith, covers h k j p n t)) (omega arith) (few h j es (p + n) f.1) in
    record { below = a.0; twice = a.1 }
few h j (interpreted k p ∷ es) s f =
    let l : s ≤ p = f.0 in
    let a =
    add h j s (p + 1) es (eqb h k && eqb p j) (λ t. omega (arith, hits h k j p t)) (omega arith)
    (few h j es (p + 1) f.1) in
    record { below = a.0; twice = a.1 }

pub once_of : (h j : ℕ) (es : List Event) → Follow Rising es 0 → times_carried h j es ≤ 1
once_of h j es f = (few h j es 0 f).twice
