-- The text of a whole block leaves as the manual and the interpreter say.
use Prim.Native.Nat.{ℕ, suc, ◌+◌, ◌*◌, ◌%◌, ◌^◌, ◌≤◌, ◌<◌}
use mathlib.Core.Path.{◌≡◌, refl, sym, ◌∙◌, subst}
use mathlib.Core.Bool.{Bool, true, false, cond}
use mathlib.Core.Logic.{◌⊎◌, inl, inr}
use mathlib.Core.List.Memᴰ
use mathlib.Core.List.{List, [], ◌∷◌, ◌++◌, Memᴰ}
use mathlib.Core.Option.{Option, none, some}
use native.Mathlib.Nat.{not-suc-le-zero}
use native.Mathlib.Omega.{arith}
use borrow.Author.Tests.{eqb-true, eqb-false}
use lib.Dec.{eqb}
use lib.ListN.{length}
use Rattle.armv4t.specs.Instr.{size_of}
use Rattle.file_instrs.specs.declared.decode.TimedInstr.{TimedInstr}
use Rattle.file_blocks.specs.Parse.{Block}
use Rattle.file_blocks.specs.Address.{region, outside_rom_bios}
use Rattle.c_tree.specs.Expr.{u32, x-pc}
use Rattle.c_tree.specs.Stmt.{Code, end, ◌⨾◌}
use Rattle.c_meaning.specs.State.{State, set_c, set_scopes, answered, enter, interp_answer}
use Rattle.c_meaning.specs.State.{after_interp}
use Rattle.c_meaning.specs.Eval.{eval}
use Rattle.c_meaning.specs.Exec.{back, exec, asks, step, runs}
use Rattle.c_meaning.specs.Helpers.{run}
use Rattle.c_meaning.proofs.Kept.{run_declares, run_later}
use Rattle.armv4t_manual.specs.Machine.{Machine, Sound}
use Rattle.armv4t.specs.InRange.{InRange}
use Rattle.lower_forms.specs.Block.{emit_instrs, hash_of, body_of}
use Rattle.lower_forms.proofs.Gives.{lt_true}
use Rattle.lower_units.specs.Block.{nl, sp, code_from, defer, under_guard, block_code}
use Rattle.lower_units.specs.Text.{Leaves}
use Rattle.lower_units.specs.Records.{RecordMeans, PairMeans, ClosingMeans}
use Rattle.claim_meaning.specs.Block.{is_covered, Sequence, Carries, in_order, granted, absent}
use Rattle.claim_meaning.specs.Block.{refused, BlockMeans}
use Rattle.lower_units.proofs.Exits.{moved_on}
use Rattle.file_blocks.proofs.Ranges.{Consecutive}
use Rattle.claim_meaning.proofs.Carried.{through, KnownFrom, Left, left_all, left_now}
use Rattle.claim_meaning.proofs.Carried.{left_later, AtRecord, Done, stepped}
use Rattle.claim_meaning.proofs.Carried.{interpreter_leaves, carries}

-- some instructions that end inside 2^32 start below it
pub start_below : (t : Bool) (a n : ℕ) → 1 ≤ n → a + n * size_of t ≤ 4294967296 → a < 4294967296
start_below true a n h l = omega arith
start_below false a n h l = omega arith

-- where a record of a set stands
pub record Placed (t : Bool) (x : TimedInstr) : Type 0 where
  pub set : x.instr.thumb ≡ t
  pub aligned : x.instr.addr % size_of t ≡ 0
  pub below : x.instr.addr < 4294967296

first_placed : (a : ℕ) (t : Bool) (n : ℕ) (x : TimedInstr) → x.instr.addr ≡ a
    → x.instr.thumb ≡ t → a % size_of t ≡ 0 → a + suc n * size_of t ≤ 4294967296 → Placed t x
first_placed a t n x p q h l =
    record { set = q; aligned = rw p h; below = rw p (start_below t a (suc n) (omega arith) l) }

next_aligned : (t : Bool) (a : ℕ) → a % size_of t ≡ 0 → (a + size_of t) % size_of t ≡ 0
next_aligned true a h = omega arith
next_aligned false a h = omega arith

next_inside : (t : Bool) (a n : ℕ) → a + suc n * size_of t ≤ 4294967296
    → a + size_of t + n * size_of t ≤ 4294967296
next_inside true a n h = omega arith
next_inside false a n h = omega arith

-- by where the first stands, where each does
pub placed : (a : ℕ) (t : Bool) (xs : List TimedInstr) → Consecutive a t xs → a % size_of t ≡ 0
    → a + length xs * size_of t ≤ 4294967296
    → (x : TimedInstr) → Memᴰ x xs → Placed t x
placed a t [] p h l x i = absurd (Memᴰ.not-nil i)
placed a t (y ∷ ys) p h l x i =
    go (placed (a + size_of t) t ys p.2 (next_aligned t a h) (next_inside t a (length ys) l) x)
    (Memᴰ.cases_cons i)
  where
    go : (Memᴰ x ys → Placed t x) → (x ≡ y) ⊎ Memᴰ x ys → Placed t x
    go follow (inl e) =
        subst (λ (u : TimedInstr). Placed t u) (sym e)
        (first_placed a t (length ys) y p.0 p.1 h l)
    go follow (inr j) = follow j

-- what is known of all records of a block
known : (multiplier : ℕ) (ks : List ℕ) (b : Block)
    → ((x : TimedInstr) → Memᴰ x b.instrs → RecordMeans ks b.addr (region b.addr) x)
    → ((us vs : List TimedInstr) (x y : TimedInstr) → b.instrs ≡ us ++ (x ∷ y ∷ vs)
    → PairMeans ks b.addr x y)
    → ((us : List TimedInstr) (x : TimedInstr) → b.instrs ≡ us ++ (x ∷ [])
    → ClosingMeans ks (body_of multiplier b) x.instr)
    → ((x : TimedInstr) → Memᴰ x b.instrs → InRange x.instr.op)
    → Consecutive b.addr b.thumb b.instrs
    → b.addr + length b.instrs * size_of b.thumb ≤ 2 ^ 32
    → b.addr % size_of b.thumb ≡ 0
    → ((x : TimedInstr) → Memᴰ x b.instrs → is_covered (region b.addr) x ≡ true)
    → KnownFrom multiplier ks b b.instrs
known multiplier ks b means pairs closing ranges consecutive inside aligned covered =
    record {
      each = λ x i.
          let p = placed b.addr b.thumb b.instrs consecutive aligned inside x i in
          record {
            means = means x i;
            covered = covered x i;
            ranged = ranges x i;
            set = p.set;
            aligned = p.aligned;
            below = p.below;
          };
      pairs = pairs;
      closing = closing;
    }

-- c[15] = address; return interp_one
run_defer : (multiplier : ℕ) (b : Block) (n : ℕ) (c : Code) (z : State) → b.addr < 4294967296
    → run (sp n ⨾ defer (body_of multiplier b) c) z
    ≡ some (after_interp (set_c 15 b.addr z), back (interp_answer (set_c 15 b.addr z)))
unfolding body_of run runs step exec eval
run_defer multiplier b n c z h = rw (lt_true h)

-- after a guard that says no, and one that says yes
run_refused : (multiplier : ℕ) (ks : List ℕ) (b : Block) (h : ℕ) (z : State) → b.addr < 4294967296
    → eqb (z.answers 0) 0 ≡ true
    → run (under_guard ks (body_of multiplier b) (some h)) z
    ≡ some (
      set_scopes z.scopes (after_interp (set_c 15 b.addr (enter (answered z)))),
      back
          (interp_answer (set_c 15 b.addr (enter (answered z)))),
    )
unfolding under_guard body_of run runs step exec asks eval
run_refused multiplier ks b h z l e = rw (e, lt_true l)

run_granted : (multiplier : ℕ) (ks : List ℕ) (b : Block) (h : ℕ) (z : State)
    → eqb (z.answers 0) 0 ≡ false
    → run (under_guard ks (body_of multiplier b) (some h)) z
    ≡ run (code_from ks (body_of multiplier b) 0 (body_of multiplier b).forms) (answered z)
unfolding under_guard run runs step asks
run_granted multiplier ks b h z e = rw e

-- the text of a block, by its address and its code bytes
run_block : (multiplier : ℕ) (ks : List ℕ) (b : Block) (z : State) (o : Bool) (h : Option ℕ)
    → outside_rom_bios b.addr ≡ o → hash_of multiplier b ≡ h
    → run (block_code ks (body_of multiplier b)) z
    ≡ run (cond o (under_guard ks (body_of multiplier b) h)
    (code_from ks (body_of multiplier b) 0 (body_of multiplier b).forms)) z
unfolding block_code body_of
run_block multiplier ks b z o h e f = rw (e, f)

module _ (multiplier : ℕ) (ks : List ℕ) (b : Block) (step : ℕ → ℕ → Machine → Machine × ℕ) where
  -- records from the first on
  all_done : (xs : List TimedInstr) → KnownFrom multiplier ks b xs → 1 ≤ length xs
      → (z : State) (m : Machine) → AtRecord step 0 z m
      → Done step 0 multiplier ks b xs m 0 (emit_instrs b.thumb (region b.addr) 0 xs).0 z
  all_done [] k h z m q = absurd (not-suc-le-zero h)
  all_done (x ∷ xs) k h z m q = carries multiplier ks b step xs x k 0 0 0 z m q

  module _ (k : KnownFrom multiplier ks b b.instrs) (some_instr : 1 ≤ length b.instrs)
      (below : b.addr < 4294967296)
      (z : State) (m : Machine) (q : AtRecord step 0 z m) where
    -- what is claimed of it
    abbrev Claim : Type 0
    Claim =
        (out : Machine × ℕ) × (used : ℕ) × Carries step (region b.addr) multiplier b z m out used
        × Sound out.0
        × (l : Leaves (λ c. block_code ks (body_of multiplier b)) z out) × Left step used l.end

    -- its records, from a state that its text leads to
    in_order_lem :
        ((out : Machine × ℕ) (n : ℕ) → Sequence step (region b.addr) 0 n b.instrs m out
        → Carries step (region b.addr) multiplier b z m out n)
        → (y : State) → AtRecord step 0 y m
        → run (block_code ks (body_of multiplier b)) z
        ≡ run (code_from ks (body_of multiplier b) 0 (body_of multiplier b).forms) y
        → Claim
    unfolding body_of
    in_order_lem by y p e =
        let d = all_done b.instrs k some_instr y m p in (
          d.out,
          d.after,
          by d.out d.after d.sequence,
          d.sound,
          through (λ c. e)
              d.leaves,
          d.left,
        )

    -- the block, by whether it stands in ROM or BIOS, whether it has code bytes, and what the guard
    -- says
    block_done : (o : Bool) (h : Option ℕ) (t : Bool) → outside_rom_bios b.addr ≡ o
        → hash_of multiplier b ≡ h → eqb (z.answers 0) 0 ≡ t
        → Claim
    unfolding under_guard
    block_done false h t e f g =
        in_order_lem (λ out n s. in_order n e s) z q (run_block multiplier ks b z false h e f)
    block_done true none t e f g =
        let s = stepped b.addr z m (left_now q.left) q.sound q.agrees in (
          step 0 b.addr m,
          1,
          absent e f refl,
          s.sound,
          interpreter_leaves b.addr z m (left_now q.left) q.sound q.agrees z.scopes
              λ c. run_block multiplier ks b z true none e f
              ∙ run_defer multiplier b 4 (nl ⨾ end) z below,
          left_later q.left refl,
        )
    block_done true (some h) true e f g =
        let s =
        stepped b.addr (enter (answered z)) m (left_now q.left) q.sound
        (moved_on q.agrees refl refl) in (
          step 0 b.addr m,
          1,
          refused h e f (eqb-true _ _ g) refl,
          s.sound,
          interpreter_leaves b.addr (enter (answered z)) m (left_now q.left) q.sound
              (moved_on q.agrees refl refl) z.scopes λ c.
              run_block multiplier ks b z true (some h) e f
              ∙ run_refused multiplier ks b h z below g,
          left_later q.left refl,
        )
    block_done true (some h) false e f g =
        in_order_lem (λ out n s. granted n h e f (eqb-false _ _ g) s) (answered z)
        (record {
          left = record { each = q.left.each };
          declares = q.declares;
          sound = q.sound;
          agrees = moved_on q.agrees refl refl;
        })
        (run_block multiplier ks b z true (some h) e f ∙ run_granted multiplier ks b h z g)

-- the text of a block means what its records do, if each does, and each two, and the closing
-- transfer
pub block_means : (multiplier : ℕ) (ks : List ℕ) (b : Block)
    → ((x : TimedInstr) → Memᴰ x b.instrs → RecordMeans ks b.addr (region b.addr) x)
    → ((us vs : List TimedInstr) (x y : TimedInstr) → b.instrs ≡ us ++ (x ∷ y ∷ vs)
    → PairMeans ks b.addr x y)
    → ((us : List TimedInstr) (x : TimedInstr) → b.instrs ≡ us ++ (x ∷ [])
    → ClosingMeans ks (body_of multiplier b) x.instr)
    → ((x : TimedInstr) → Memᴰ x b.instrs → InRange x.instr.op)
    → Consecutive b.addr b.thumb b.instrs → 1 ≤ length b.instrs
    → b.addr + length b.instrs * size_of b.thumb ≤ 2 ^ 32
    → b.addr % size_of b.thumb ≡ 0 → BlockMeans multiplier ks b
block_means multiplier ks b means pairs closing ranges consecutive some_instr inside aligned covered
    step z m interprets declares sound agrees =
    let d =
    block_done multiplier ks b step
    (known multiplier ks b means pairs closing ranges consecutive inside aligned covered)
    some_instr
    (start_below b.thumb b.addr (length b.instrs) some_instr inside) z m
    (record { left = left_all interprets; declares = declares; sound = sound; agrees = agrees })
    (outside_rom_bios b.addr) (hash_of multiplier b)
    (eqb (z.answers 0) 0) refl refl refl
    in
    let l : Leaves (λ c. block_code ks (body_of multiplier b)) z d.0 = d.4 in
    let code = block_code ks (body_of multiplier b) in
    record {
      out = d.0;
      used = d.1;
      by = d.2;
      sound = d.3;
      text = l;
      declares = run_declares code z l.end l.exit (u32, x-pc) (l.ends end) declares;
      left = d.5.each;
      later = run_later code z l.end l.exit (l.ends end);
    }
