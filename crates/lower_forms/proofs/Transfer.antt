-- Single loads and stores: what a Mem is lowered to does what the manual says.
use mathlib.Core.Path.{◌≡◌, refl, sym, ap, ◌∙◌, subst}
use mathlib.Core.Bool.{Bool, true, false, not, ◌&&◌, cond}
use mathlib.Core.List.{List, [], ◌∷◌, ◌++◌}
use mathlib.Core.Option.{some}
use Prim.Native.Nat.{ℕ, ◌+◌, ◌-◌, ◌*◌, ◌/◌, ◌%◌, ◌≤◌, ◌<◌}
use native.Mathlib.Nat.{mod-lt, div-one}
use native.Mathlib.Omega.{arith}
use lib.Dec.{eqb, lit<}
use Rattle.base_words.specs.Word.{bit, one_if}
use Rattle.base_words.proofs.Bits.{bit_num}
use Rattle.armv4t.specs.declared.MemWidth.{MemWidth}
use Rattle.armv4t.specs.declared.MemWidth.TheVariants.{Byte, Half, Word}
use Rattle.c_tree.specs.Expr.{u32, x-base, x-ob, x-addr, var, Expr, bin, Width, w8, w16, w32}
use Rattle.c_tree.specs.Stmt.{Plain, write}
use Rattle.c_tree.specs.Preamble.{v32}
use Rattle.c_meaning.specs.State.{State, empty, value, set_c, set_mem, load, store, enter}
use Rattle.c_meaning.specs.Eval.{eval_as}
use Rattle.c_meaning.specs.Exec.{exec}
use Rattle.lower_forms.specs.InlineBody.{list_if, let32, set_reg, add_or_sub, loaded, stored}
use Rattle.lower_forms.specs.InlineBody.{access}
use Rattle.armv4t_manual.specs.Machine.{Machine, Sound}
use Rattle.armv4t_manual.specs.Machine as M
use Rattle.armv4t_manual.specs.Operators.{rotate_right, SignExtend8, SignExtend16}
use Rattle.armv4t_manual.specs.Transfer.{Memory2, moved, address}
use Rattle.armv4t_manual.specs.Transfer as T
use Rattle.lower_forms.specs.Agree.{Agrees}
use Rattle.lower_forms.specs.Means.{Makes}
use Rattle.lower_forms.proofs.Gives.{Reads, to, r_udec, r_par, r_add, r_sub, r_mul, r_var}
use Rattle.lower_forms.proofs.Gives.{r_ror, rotate_none}
use Rattle.lower_forms.proofs.Memory.{r_read, r_read16, r_read8, half_small, r_signed8}
use Rattle.lower_forms.proofs.Memory.{r_signed16, r_pick, r_even, r_one, r_aligned}
use Rattle.lower_forms.proofs.Memory.{r_rotation}
use Rattle.lower_forms.proofs.Operands.{same_of, under}
use Rattle.lower_forms.proofs.Multiply.{reg_reads}
use Rattle.lower_forms.proofs.Alu.{Always}
use Rattle.lower_forms.proofs.Steps.{exec1, step, stop, opened, given, within, do_declare}
use Rattle.lower_forms.proofs.Steps.{do_reg, with_scopes, with_reg, with_pc, with_over}

-- base + off, base - off
pub direction_reads : {z : State} {d e : Expr} {x y : ℕ} (up : Bool) → Reads d z x → Reads e z y
    → Reads (bin (add_or_sub up) d e) z (moved up x y)
direction_reads true p q = r_add p q
direction_reads false p q = r_sub p q

pub moved_lt : (up : Bool) (x y : ℕ) → moved up x y < 4294967296
moved_lt true x y = mod-lt (x + y) (lit< tt)
moved_lt false x y = mod-lt (x + (4294967296 - y)) (lit< tt)

address_lt : (pre up : Bool) (x y : ℕ) → x < 4294967296 → address pre up x y < 4294967296
address_lt true up x y h = moved_lt up x y
address_lt false up x y h = h

-- a->write32(m, d, e); and the like
pub do_write : {z : State} {d e : Expr} {x y : ℕ} → Reads d z x → Reads e z y → (k : Width)
    → exec1 (write k d e) z ≡ some (set_mem (store k x y z.mem) z)
unfolding exec eval_as
do_write p q k = rw (p.gives, q.gives, p.typed, q.typed)

pub with_mem : {z : State} {m : Machine} → Agrees z m → (f g : ℕ → ℕ) → f ≡ g
    → Agrees (set_mem f z) (M.set_mem g m)
with_mem a f g e = record { regs = a.regs; flags = a.flags; memory = e }

-- bit 0 of an address, and the address without it
low_bit : (k : ℕ) → k % 2 ≡ one_if (bit k 0)
low_bit k = ap (λ (l : ℕ). l % 2) (sym (div-one k)) ∙ sym (bit_num k 0)

without_bit : (k : ℕ) → k / 2 * 2 ≡ cond (bit k 0) (k - 1) k
without_bit k = go (bit k 0) (low_bit k)
  where
    go : (b : Bool) → k % 2 ≡ one_if b → k / 2 * 2 ≡ cond b (k - 1) k
    go true e = omega (arith, e)
    go false e = omega (arith, e)

-- a halfword, rotated where its address is odd
half_turned : (b : Bool) (f : ℕ → ℕ) (k : ℕ)
    → rotate_right (load w16 f (cond b (k - 1) k)) (one_if b * 8)
    ≡ cond b (rotate_right (Memory2 f (k - 1)) 8) (Memory2 f k)
half_turned true f k = refl
half_turned false f k = rotate_none (load w16 f k)

-- the places of a rotation: 8 times the low bits of an address
few : (k : ℕ) → 8 * (k % 4) < 32
few k = omega arith

eight : (k : ℕ) → k % 2 * 8 % 4294967296 ≡ k % 2 * 8
eight k = omega arith

eights : (b : Bool) → one_if b * 8 < 32
eights true = lit< tt
eights false = lit< tt

-- x: the base, b its expression; y: the offset, off its expression
module _ {z : State} {m : Machine} (s : Sound m) (a : Agrees z m) (b : Expr) (x : ℕ)
    (p : Always b m x) (pre up : Bool) (off : Expr) (y : ℕ) (o : Always off m y) where
  -- after the three declarations
  unfoldable pub placed : State
  placed =
      within (given x-addr (address pre up x y) (given x-ob (moved up x y) (given x-base x empty)))
      z.scopes z

  placed_same : Agrees placed m
  unfolding placed
  placed_same = with_scopes a _

  small : x < 4294967296
  small = (p z a).small

  addr_reads : (pre : Bool) (u : State) → value (var (u32, x-base)) u ≡ some x
      → value (var (u32, x-ob)) u ≡ some (moved up x y)
      → Reads (v32 (cond pre x-ob x-base)) u (address pre up x y)
  addr_reads true u p q = r_var (u32, x-ob) refl q (moved_lt up x y)
  addr_reads false u p q = r_var (u32, x-base) refl p small

  pub place : {ps : List Plain} {m1 : Machine} → Makes ps placed m1
      → Makes (let32 x-base b ∷ let32 x-ob (bin (add_or_sub up) (v32 x-base) off)
      ∷ let32 x-addr (v32 (cond pre x-ob x-base)) ∷ ps) (enter z) m1
  unfolding placed
  place k =
      step (do_declare x-base empty z.scopes z refl (p _ (with_scopes a _)))
      (step (do_declare x-ob (given x-base x empty) z.scopes z refl
      (direction_reads up (r_var (u32, x-base) refl refl small) (o _ (with_scopes a _))))
      (step
      (do_declare x-addr (given x-ob (moved up x y) (given x-base x empty)) z.scopes z refl
      (addr_reads pre
      (within (opened x-addr (given x-ob (moved up x y) (given x-base x empty))) z.scopes z)
      refl refl))
      k))

  addr_in : (u : State) → value (var (u32, x-addr)) u ≡ some (address pre up x y)
      → Reads (v32 x-addr) u (address pre up x y)
  addr_in u q = r_var (u32, x-addr) refl q (address_lt pre up x y small)

  bytes_in : (u : State) → u.mem ≡ m.mem → (k : ℕ) → u.mem k < 256
  bytes_in u e k = subst (λ (f : ℕ → ℕ). f k < 256) (sym e) (s.bytes k)

  -- what is loaded
  value_reads : (k : MemWidth) (sig : Bool) (u : State)
      → value (var (u32, x-addr)) u ≡ some (address pre up x y) → u.mem ≡ m.mem
      → Reads (loaded k sig) u (T.loaded k sig m.mem (address pre up x y))
  value_reads Word sig u q e =
      let p = addr_in u q in
      r_ror (to (ap (λ (f : ℕ → ℕ). load w32 f (address pre up x y / 4 * 4)) e)
      (r_read (r_aligned p) (bytes_in u e))) (r_rotation p) (few (address pre up x y))
  value_reads Half false u q e =
      let p = addr_in u q in
      let k : ℕ = address pre up x y in
      to (ap (λ (f : ℕ → ℕ). rotate_right (load w16 f (cond (bit k 0) (k - 1) k))
      (one_if (bit k 0) * 8)) e ∙ half_turned (bit k 0) m.mem k)
      (r_ror (r_read16 (to (without_bit k) (r_even p)) (bytes_in u e))
      (to (eight k ∙ ap (λ (j : ℕ). j * 8) (low_bit k)) (r_mul (r_one p) (r_udec (lit< tt))))
      (eights (bit k 0)))
  value_reads Half true u q e =
      let p = addr_in u q in
      let k : ℕ = address pre up x y in
      to (ap (λ (f : ℕ → ℕ). cond (bit k 0) (SignExtend8 (f k)) (SignExtend16 (load w16 f k))) e)
      (r_par (r_pick (bit k 0) (to (low_bit k) (r_one p))
      (r_signed8 (r_read8 p (bytes_in u e)) (bytes_in u e k))
      (r_signed16 (r_read16 p (bytes_in u e)) (half_small u.mem (bytes_in u e) k))))
  value_reads Byte false u q e =
      to (ap (λ (f : ℕ → ℕ). f (address pre up x y)) e) (r_read8 (addr_in u q) (bytes_in u e))
  value_reads Byte true u q e =
      to (ap (λ (f : ℕ → ℕ). SignExtend8 (f (address pre up x y))) e)
      (r_signed8 (r_read8 (addr_in u q) (bytes_in u e)) (bytes_in u e (address pre up x y)))

  -- c[rn] = ob;
  base_back : (rn : ℕ) → rn < 15 → (u : State) → value (var (u32, x-ob)) u ≡ some (moved up x y)
      → exec1 (set_reg rn (v32 x-ob)) u ≡ some (set_c rn (moved up x y) u)
  base_back rn h u q = do_reg (r_var (u32, x-ob) refl q (moved_lt up x y)) rn (omega (arith, h))

  -- a->write32(m, addr & ~3u, e); and the like
  store_does : (k : MemWidth) (u : State) → value (var (u32, x-addr)) u ≡ some (address pre up x y)
      → u.mem ≡ m.mem
      → {e : Expr} {v : ℕ} → Reads e u v
      → (f : ℕ → ℕ) × (exec1 (stored k e) u ≡ some (set_mem f u))
      × (f ≡ T.stored k (address pre up x y) v m.mem)
  store_does Word u q e {v = v} p = (
    store w32 (address pre up x y / 4 * 4) v u.mem,
    do_write (r_aligned (addr_in u q)) p w32,
    ap (store w32 (address pre up x y / 4 * 4) v) e,
  )
  store_does Half u q e {v = v} p =
      let k : ℕ = address pre up x y in
      let l : ℕ = cond (bit k 0) (k - 1) k in (
        store w16 l v u.mem,
        do_write (to (without_bit k) (r_even (addr_in u q))) p w16,
        ap
            (store w16 l v) e,
      )
  store_does Byte u q e {v = v} p = (
    store w8 (address pre up x y) v u.mem,
    do_write (addr_in u q) p w8,
    ap
        (store w8 (address pre up x y) v) e,
  )

  -- a store; the text writes no base that is R15
  pub store_access : (k : MemWidth) (sig wb : Bool) (rd rn : ℕ) → rd < 15 → rn ≤ 15
      → Makes (access false k sig rd rn wb) placed
      (let m1 : Machine = M.set_mem (T.stored k (address pre up x y) (m.r rd) m.mem) m in
      cond wb (M.set_reg rn (moved up x y) m1) m1)
  unfolding placed
  store_access k sig wb rd rn hd hn =
      let t = store_does k placed refl a.memory (reg_reads s placed_same rd hd) in
      step t.1 (go wb (eqb rn 15) refl t.0 (with_mem placed_same t.0 _ t.2))
    where
      m1 : Machine
      m1 = M.set_mem (T.stored k (address pre up x y) (m.r rd) m.mem) m

      go : (w c : Bool) → eqb rn 15 ≡ c → (f : ℕ → ℕ) → Agrees (set_mem f placed) m1
          → Makes (list_if (w && not c) (set_reg rn (v32 x-ob))) (set_mem f placed)
          (cond w (M.set_reg rn (moved up x y) m1) m1)
      go false c q f b = stop b
      go true true q f b = stop (with_pc b rn (moved up x y) (same_of rn 15 q))
      go true false q f b =
          let h : rn < 15 = under rn hn q in
          step (base_back rn h (set_mem f placed) refl) (stop (with_reg b rn (moved up x y) h))

  -- a load; the text writes no base that is R15 or rd
  pub load_access : (k : MemWidth) (sig wb : Bool) (rd rn : ℕ) → rd < 15 → rn ≤ 15
      → Makes (access true k sig rd rn wb) placed
      (M.set_reg rd (T.loaded k sig m.mem (address pre up x y))
      (cond wb (M.set_reg rn (moved up x y) m) m))
  unfolding placed
  load_access k sig wb rd rn hd hn = go wb (eqb rn rd) refl (eqb rn 15) refl
    where
      v : ℕ
      v = T.loaded k sig m.mem (address pre up x y)

      -- c[rd] = e;
      last : (u : State) {m1 : Machine} → value (var (u32, x-addr)) u ≡ some (address pre up x y)
          → u.mem ≡ m.mem → Agrees (set_c rd v u) m1
          → Makes (set_reg rd (loaded k sig) ∷ []) u m1
      last u q e b = step (do_reg (value_reads k sig u q e) rd (omega (arith, hd))) (stop b)

      go : (w b : Bool) → eqb rn rd ≡ b → (c : Bool) → eqb rn 15 ≡ c
          → Makes (list_if (w && not b && not c) (set_reg rn (v32 x-ob))
          ++ (set_reg rd (loaded k sig) ∷ [])) placed
          (M.set_reg rd v (cond w (M.set_reg rn (moved up x y) m) m))
      go false b p c q = last placed refl a.memory (with_reg placed_same rd v hd)
      go true true p c q =
          last placed refl a.memory
          (with_over placed_same rd v rn (moved up x y) hd (same_of rn rd p))
      go true false p true q =
          last placed refl a.memory
          (with_reg (with_pc placed_same rn (moved up x y) (same_of rn 15 q)) rd v hd)
      go true false p false q =
          let h : rn < 15 = under rn hn q in
          step (base_back rn h placed refl)
          (last (set_c rn (moved up x y) placed) refl a.memory
          (with_reg (with_reg placed_same rn (moved up x y) h) rd v hd))
