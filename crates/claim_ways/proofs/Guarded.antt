-- Native statements of a guarded block are reached only after the guard's yes. The state is what
-- happened, the last first.
use Prim.Native.Nat.{ℕ}
use mathlib.Core.Path.{◌≡◌, refl, subst}
use mathlib.Core.Logic.{◌⊎◌, inl, inr}
use mathlib.Core.Bool.{Bool, true}
use mathlib.Core.List.{List, [], ◌∷◌, ◌++◌, Memᴰ}
use mathlib.Core.Option.{some}
use lib.Dec.{T, T_not}
use Rattle.c_tree.specs.Stmt.{guard, Top}
use Rattle.lower_forms.specs.Forms.{Body}
use Rattle.lower_units.specs.Block.{body_key, body_length, block_code}
use Rattle.file_blocks.specs.Address.{outside_rom_bios}
use Rattle.lower_units.specs.Units.{with_locals}
use Rattle.claim_ways.specs.Ways.{Event, said, Way}
use Rattle.claim_ways.specs.Claim.{AtNative}
use Rattle.claim_ways.proofs.Logic.{Logic, Follow}
use Rattle.claim_ways.proofs.Emitted.{Quiet, q_native, q_none, q_other, q_gate, Rules}
use Rattle.claim_ways.proofs.Followed.{lone_follows}

-- the guard said yes to the block's address, length and hash
abbrev pub Allowed : Body → List Event → Type 0
Allowed b es =
    (h : ℕ) × (b.hash ≡ some h) × Memᴰ (said (guard b.addr (body_length b) h) true) es

-- no two of some blocks have one key
abbrev pub Apart : List Body → Type 0
Apart bs = (b c : Body) → Memᴰ b bs → Memᴰ c bs → body_key b ≡ body_key c → b ≡ c

abbrev pub Backed : List Body → List Event → Event → Type 0
Backed bs s e = (b : Body) → Memᴰ b bs → AtNative (body_key b) e → T (outside_rom_bios b.addr)
    → Allowed b s

abbrev pub History : List Body → Logic
History bs =
    record { S = List Event; step = λ s e. e ∷ s; allow = Backed bs; owed = λ k s. Unit {0} }

later : (b : Body) (s : List Event) (e : Event) → (T (outside_rom_bios b.addr) → Allowed b s)
    → T (outside_rom_bios b.addr) → Allowed b (e ∷ s)
later b s e f t = let p = f t in (p.0, p.1, Memᴰ.tail p.2)

module _ (bs : List Body) (apart : Apart bs) (b : Body) (m : Memᴰ b bs) where
  -- what is known of b is known of whichever block has its key
  backed : (s : List Event) → (T (outside_rom_bios b.addr) → Allowed b s) → (c : Body)
      → Memᴰ c bs → body_key b ≡ body_key c → T (outside_rom_bios c.addr) → Allowed c s
  backed s f c n e = subst (λ d. T (outside_rom_bios d.addr) → Allowed d s) (apart b c m n e) f

  quiet_of : (s : List Event) (e : Event) → (T (outside_rom_bios b.addr) → Allowed b s) → Quiet b e
      → Backed bs s e × (T (outside_rom_bios b.addr) → Allowed b (e ∷ s))
  quiet_of s e f q_native = (backed s f, later b s _ f)
  quiet_of s e f q_none = (λ c n a. absurd a, later b s _ f)
  quiet_of s e f q_other = (λ c n a. absurd a, later b s _ f)
  quiet_of s e f q_gate = (λ c n a. absurd a, later b s _ f)

  pub history_rules : (ks : List ℕ) → Rules (History bs) b ks
  history_rules ks = record {
    Inv = λ p w s. T (outside_rom_bios b.addr) → Allowed b s;
    Pre = λ s. Unit {0};
    quiet = λ p w s e i q. quiet_of s e i q;
    carry = λ p n w s i. (backed s i, later b s _ i);
    shells = λ p w s i. (λ c n a. absurd a, later b s _ i);
    up = λ p w s k i n l. tt;
    back = λ p w s k o x i n. tt;
    free = λ s t i g. absurd (T_not (outside_rom_bios b.addr) t g);
    asks = λ s y x i. (λ c n a. absurd a, λ c n a. absurd a, tt);
    yes_of = λ s y e i t. (y, e, Memᴰ.head refl);
    lands = λ s o. tt;
    defers = λ s i. (λ c n a. absurd a, λ c n a. absurd a);
  }

  pub lone_seen : {ts : List Top} {xs : List Bool} {es : List Event}
      → Way ts (with_locals (block_code [] b)) (with_locals (block_code [] b)) xs es
      → Follow (History bs) es []
  unfolding history_rules
  lone_seen w =
      lone_follows (History bs) b (history_rules []) []
      (record {
        first = λ c n a. absurd a;
        second = λ c n a. absurd a;
        third = λ c n a. absurd a;
        fourth = λ c n a. absurd a;
      }) tt w

-- the events, the last first, and others after
rev : List Event → List Event → List Event
rev [] s = s
rev (u ∷ us) s = rev us (u ∷ s)

at : (bs : List Body) (us vs : List Event) (e : Event) (s : List Event)
    → Follow (History bs) (us ++ (e ∷ vs)) s → Backed bs (rev us s) e
unfolding rev
at bs [] vs e s f = f.0
at bs (u ∷ us) vs e s f = at bs us vs e (u ∷ s) f.1

among : {a : Event} (us s : List Event) → Memᴰ a (rev us s) → Memᴰ a us ⊎ Memᴰ a s
unfolding rev
among [] s m = inr m
among {a} (u ∷ us) s m = go (among us (u ∷ s) m)
  where
    down : Memᴰ a (u ∷ s) → Memᴰ a (u ∷ us) ⊎ Memᴰ a s
    down (Memᴰ.head e) = inl (Memᴰ.head e)
    down (Memᴰ.tail n) = inr n

    go : Memᴰ a us ⊎ Memᴰ a (u ∷ s) → Memᴰ a (u ∷ us) ⊎ Memᴰ a s
    go (inl n) = inl (Memᴰ.tail n)
    go (inr n) = down n

pub guarded_of : (bs : List Body) (us vs : List Event) (e : Event)
    → Follow (History bs) (us ++ (e ∷ vs)) []
    → (b : Body) → Memᴰ b bs → AtNative (body_key b) e → T (outside_rom_bios b.addr)
    → Allowed b us
guarded_of bs us vs e f b m n t =
    let p = at bs us vs e [] f b m n t in (p.0, p.1, go (among us [] p.2))
  where
    go : {a : Event} → Memᴰ a us ⊎ Memᴰ a [] → Memᴰ a us
    go (inl m) = m
    go (inr m) = absurd (elim m [ ])
