-- A gateless run carries out at most the limit, in a group of several. The state is what was
-- carried out since the last consultation.
use Prim.Native.Nat.{ℕ, suc, ◌+◌, ◌≤◌, ◌<◌, ◌%◌}
use mathlib.Core.Path.{◌≡◌, subst}
use mathlib.Core.Bool.{Bool, true, false, not, cond}
use mathlib.Core.List.{List, [], ◌∷◌, ◌++◌, map, Memᴰ}
use native.Mathlib.Omega.{arith}
use lib.Dec.{T, leb, leb→le, nleb→lt}
use Rattle.armv4t.specs.Bit0.{clear_bit0}
use Rattle.c_tree.specs.Stmt.{Test, guard, gate, other}
use Rattle.lower_forms.specs.Forms.{Body}
use Rattle.lower_forms.proofs.RecordCount.{record_counts}
use Rattle.lower_units.specs.Block.{body_key}
use Rattle.claim_ways.specs.Ways.{Event, reach, said, native_start, interpreted}
use Rattle.claim_ways.specs.Claim.{carried, Gateless}
use Rattle.claim_ways.proofs.Logic.{Logic, Follow}
use Rattle.claim_ways.proofs.Emitted.{Quiet, q_native, q_none, q_other, q_gate, Rules}

-- what an accepted file gives of a block
pub record Member (b : Body) : Type 0 where
  pub even : b.addr % 2 ≡ 0
  pub filled : 1 ≤ b.count
  pub whole : record_counts b.forms ≡ b.count

-- the instructions of some blocks
abbrev pub total : List Body → ℕ
total [] = 0
total (b ∷ bs) = b.count + total bs

abbrev asked : Test → ℕ → ℕ
asked (guard a l h) s = s
asked gate s = 0
asked (other t) s = s

abbrev spend : ℕ → Event → ℕ
spend s (reach o) = s
spend s (said t x) = asked t s
spend s (native_start k i n) = s + n
spend s (interpreted k i) = s + 1

-- the counts of the members at the address a or above
pub at_least : ℕ → List Body → ℕ
at_least a [] = 0
at_least a (b ∷ bs) = cond (leb a b.addr) b.count 0 + at_least a bs

-- a goto needs room for all that can be carried out without a gate from there on
abbrev pub Spent : ℕ → List Body → Logic
Spent limit g =
    record {
      S = ℕ;
      step = spend;
      allow = λ s e. spend s e ≤ limit;
      owed = λ k s. s + at_least (clear_bit0 k) g ≤ limit;
    }

test_mono : (a c n w : ℕ) → a ≤ c → cond (leb c n) w 0 ≤ cond (leb a n) w 0
test_mono a c n w h = go (leb c n) (leb a n) (leb→le c n) (nleb→lt a n)
  where
    go : (x y : Bool) → (T x → c ≤ n) → (T (not y) → n < a) → cond x w 0 ≤ cond y w 0
    go true true f g = omega arith
    go true false f g = let p = f tt in let q = g tt in omega arith
    go false true f g = omega arith
    go false false f g = omega arith

test_le : (x : Bool) (w : ℕ) → cond x w 0 ≤ w
test_le true w = omega arith
test_le false w = omega arith

test_self : (a w : ℕ) → w + cond (leb (suc a) a) w 0 ≤ cond (leb a a) w 0
test_self a w = go (leb (suc a) a) (leb a a) (leb→le (suc a) a) (nleb→lt a a)
  where
    go : (x y : Bool) → (T x → suc a ≤ a) → (T (not y) → a < a) → w + cond x w 0 ≤ cond y w 0
    go true y f g = let p = f tt in omega arith
    go false true f g = omega arith
    go false false f g = let p = g tt in omega arith

mono : (a c : ℕ) (g : List Body) → a ≤ c → at_least c g ≤ at_least a g
unfolding at_least
mono a c [] h = omega arith
mono a c (b ∷ g) h = omega (arith, mono a c g h, test_mono a c b.addr b.count h)

pub at_most_total : (a : ℕ) (g : List Body) → at_least a g ≤ total g
unfolding at_least
at_most_total a [] = omega arith
at_most_total a (b ∷ g) = omega (arith, at_most_total a g, test_le (leb a b.addr) b.count)

member : (b : Body) (g : List Body) → Memᴰ b g
    → b.count + at_least (suc b.addr) g ≤ at_least b.addr g
unfolding at_least
member b [] m = elim m [ ]
member b (c ∷ g) (Memᴰ.head e) =
    subst (λ x. b.count
    + (cond (leb (suc b.addr) x.addr) x.count 0 + at_least (suc b.addr) g)
    ≤ cond (leb b.addr x.addr) x.count 0 + at_least b.addr g) e
    (omega (arith, test_self b.addr b.count, mono b.addr (suc b.addr) g (omega arith)))
member b (c ∷ g) (Memᴰ.tail m) =
    omega (
      arith,
      member b g m,
      test_mono b.addr (suc b.addr) c.addr c.count
          (omega arith),
    )

clear_key : (b : Body) → b.addr % 2 ≡ 0 → clear_bit0 (body_key b) ≡ b.addr
clear_key b e = go b.thumb
  where
    go : (x : Bool) → clear_bit0 (b.addr + cond x 1 0) ≡ b.addr
    go true = omega arith
    go false = omega arith

module _ (limit : ℕ) where
  quiet_of : (b : Body) (a w s : ℕ) (e : Event) → s + w + a ≤ limit → Quiet b e
      → (spend s e ≤ limit) × (spend s e + w + a ≤ limit)
  quiet_of b a w s e i q_native = omega arith
  quiet_of b a w s e i q_none = omega arith
  quiet_of b a w s e i q_other = omega arith
  quiet_of b a w s e i q_gate = omega arith

  pub spent_rules : (g : List Body) → total g ≤ limit → (b : Body) → Memᴰ b g → Member b
      → Rules (Spent limit g) b (map body_key g)
  spent_rules g small b m h = record {
    Inv = λ p w s. s + w + at_least (suc b.addr) g ≤ limit;
    Pre = λ s. s + at_least b.addr g ≤ limit;
    quiet = λ p w s e i q. quiet_of b (at_least (suc b.addr) g) w s e i q;
    carry = λ p n w s i. omega arith;
    shells = λ p w s i. omega arith;
    up = λ p w s k i n l. omega (arith, mono (suc b.addr) (clear_bit0 k) g l);
    back = λ p w s k o x i n. omega (arith, at_most_total (clear_bit0 k) g);
    free = λ s t i. omega (arith, member b g m, h.whole);
    asks = λ s y x i. omega arith;
    yes_of = λ s y e i. omega (arith, member b g m, h.whole);
    lands = λ s o. subst (λ a. s + at_least a g ≤ limit) (clear_key b h.even) o;
    defers = λ s i. omega (arith, member b g m, h.filled);
  }

  module _ (g : List Body) where
    -- what the check proves of each part
    dropped : (us es : List Event) (s : ℕ) → s ≤ limit → Follow (Spent limit g) (us ++ es) s
        → (r : ℕ) × (r ≤ limit) × Follow (Spent limit g) es r
    dropped [] es s h f = (s, h, f)
    dropped (u ∷ us) es s h f = dropped us es (spend s u) f.0 f.1

    part : (ps vs : List Event) (s : ℕ) → s ≤ limit → Follow (Spent limit g) (ps ++ vs) s
        → Gateless ps → s + carried ps ≤ limit
    part [] vs s h f q = omega arith
    part (reach o ∷ ps) vs s h f q = part ps vs s f.0 f.1 q
    part (said (guard a l k) x ∷ ps) vs s h f q = part ps vs s f.0 f.1 q.1
    part (said gate x ∷ ps) vs s h f q = absurd q.0
    part (said (other t) x ∷ ps) vs s h f q = part ps vs s f.0 f.1 q.1
    part (native_start k i n ∷ ps) vs s h f q = omega (arith, part ps vs (s + n) f.0 f.1 q)
    part (interpreted k i ∷ ps) vs s h f q = omega (arith, part ps vs (s + 1) f.0 f.1 q)

    pub parts : (us ps vs : List Event) → Follow (Spent limit g) (us ++ (ps ++ vs)) 0 → Gateless ps
        → carried ps ≤ limit
    parts us ps vs f q =
        let d = dropped us (ps ++ vs) 0 (omega arith) f in
        omega (arith, part ps vs d.0 d.1 d.2 q)
