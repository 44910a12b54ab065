-- Load and store multiple: what a BlockMem is lowered to does what the manual says.
use mathlib.Core.Path.{◌≡◌, refl, sym, ap, ◌∙◌, subst}
use mathlib.Core.Bool.{Bool, true, false, not, cond, ◌&&◌}
use mathlib.Core.List.{List, [], ◌∷◌, ◌++◌}
use mathlib.Core.Option.{some}
use Prim.Native.Nat.{ℕ, ◌+◌, ◌-◌, ◌*◌, ◌/◌, ◌%◌, ◌≤◌, ◌<◌}
use native.Mathlib.Nat.{mod-lt, mod-add-mod}
use native.Mathlib.Omega.{arith}
use lib.Dec.{eqb, eqb_refl, lit<}
use lib.ListN.{length, get_or}
use Rattle.base_words.proofs.Bits.{is_true}
use Rattle.armv4t.specs.declared.Instr.{Instr}
use Rattle.armv4t.specs.Instr.{pc_value}
use Rattle.c_tree.specs.Expr.{u32, word, Name, x-base, x-addr, var, reg, w32, Expr, lit, get}
use Rattle.c_tree.specs.Preamble.{v32}
use Rattle.c_meaning.specs.State.{State, Scope, empty, index, value, update, set_c, set_mem, load}
use Rattle.c_meaning.specs.State.{store, enter}
use Rattle.lower_forms.specs.Forms.{Lines}
use Rattle.lower_forms.specs.InlineBody.{list_if, each_on_line, let32, set_reg, loads, moved_base}
use Rattle.lower_forms.specs.InlineBody.{start}
use Rattle.lower_forms.specs.InlineBody.{stored_reg, stores, loads_or_stores, block_mem_body}
use Rattle.armv4t_manual.specs.Machine.{Machine, R, set_regs, Sound}
use Rattle.armv4t_manual.specs.Machine as M
use Rattle.armv4t_manual.specs.Transfer.{Memory4, set_memory4, moved}
use Rattle.armv4t_manual.specs.Multiple.{load_all, store_all}
use Rattle.armv4t_manual.specs.Multiple as MM
use Rattle.lower_forms.specs.Agree.{Agrees}
use Rattle.lower_forms.specs.Means.{Makes, statements}
use Rattle.lower_forms.proofs.Gives.{Reads, to, r_reg, r_udec, r_word, r_add, r_sub, r_var}
use Rattle.lower_forms.proofs.Memory.{r_read, r_aligned}
use Rattle.lower_forms.proofs.Operands.{Regs, same_of, under}
use Rattle.lower_forms.proofs.Multiply.{reg_reads}
use Rattle.lower_forms.proofs.Transfer.{direction_reads, do_write}
use Rattle.lower_forms.proofs.Listed.{member, load_over}
use Rattle.lower_forms.proofs.Steps.{step, stop, opened, given, within, do_declare, do_plus}
use Rattle.lower_forms.proofs.Steps.{do_reg, with_scopes, with_reg}
use Rattle.base_lists.proofs.Each.{Each, each_map}

-- without writeback each register is stored in the text that it has as the lowest listed
pub stored_as_lowest : (i : Instr) (rn lowest : ℕ) (after : Expr) (r : ℕ)
    → stored_reg i rn false lowest after r ≡ stored_reg i rn true r after r
stored_as_lowest i rn lowest after r = rw (is_true (eqb r r) (eqb_refl r)) refl

-- a local of the innermost scope
pub in_scope : (x : Name) (f : Scope) (fs : List Scope) (z : State) {k : ℕ}
    → f (index x) ≡ some (u32, some k) → value (var (u32, x)) (within f fs z) ≡ some k
in_scope x f fs z q = rw q

-- c[r] = a->read32(m, addr & ~3u); addr += 4u; for each
loads_ok : (is : List ℕ) (f : Scope) (fs : List Scope) (u : State) (m : Machine) (k : ℕ)
    → Each (λ i. i < 15) is → ((a : ℕ) → m.mem a < 256) → Agrees u m
    → f (index x-addr) ≡ some (u32, some k) → k < 4294967296
    → Makes (statements (loads is)) (within f fs u) (set_regs (load_all is k m.mem m.r) m)
loads_ok [] f fs u m k h b a q l =
    stop (record { regs = a.regs; flags = a.flags; memory = a.memory })
loads_ok (i ∷ is) f fs u m k h b a q l =
    let x : ℕ = Memory4 m.mem k in
    step
    (do_reg
    (to (ap (λ (f : ℕ → ℕ). load w32 f (k / 4 * 4)) a.memory)
    (r_read (r_aligned (r_var (u32, x-addr) refl (in_scope x-addr f fs u q) l))
    (λ j. subst (λ (f : ℕ → ℕ). f j < 256) (sym a.memory) (b j)))) i (omega (arith, h.0)))
    (step (do_plus x-addr f fs (set_c i x u) q (r_udec (lit< tt)))
    (loads_ok is (update (index x-addr) (some (u32, some ((k + 4) % 4294967296))) f) fs (set_c i x u)
    (M.set_reg i x m) ((k + 4) % 4294967296) h.1 b
    (with_reg a i x h.0) refl (mod-lt (k + 4) (lit< tt))))

-- the lowest address
module _ {m : Machine} (s : Sound m) (rn : ℕ) (hn : rn < 15) (k : ℕ) (hk : k * 4 < 4294967296) where
  base_in : (u : State) → value (var (u32, x-base)) u ≡ some (m.r rn)
      → Reads (v32 x-base) u (m.r rn)
  base_in u q = r_var (u32, x-base) refl q (s.words rn hn)

  start_reads : (up pre : Bool) (u : State) → value (var (u32, x-base)) u ≡ some (m.r rn)
      → Reads (start up pre (k * 4)) u (MM.start up pre (m.r rn) k)
  start_reads true false u q = base_in u q
  start_reads true true u q = r_add (base_in u q) (r_udec (lit< tt))
  start_reads false true u q = r_sub (base_in u q) (r_udec hk)
  start_reads false false u q =
      to (mod-add-mod (m.r rn + (4294967296 - k * 4)) 4294967296 4)
      (r_add (r_sub (base_in u q) (r_udec hk)) (r_udec (lit< tt)))

  moved_reads : (up : Bool) (u : State) → value (var (u32, x-base)) u ≡ some (m.r rn)
      → Reads (moved_base up (k * 4)) u (moved up (m.r rn) (k * 4))
  moved_reads up u q = direction_reads up (base_in u q) (r_udec hk)

-- LDM without R15
module _ {z : State} {m : Machine} (s : Sound m) (a : Agrees z m) (i : Instr) (rn : ℕ)
    (hn : rn < 15) (regs : List ℕ) (hk : length regs * 4 < 4294967296) where
  -- base and address declared
  abbrev placed_scope : Bool → Bool → Scope
  placed_scope up pre =
      given x-addr (MM.start up pre (m.r rn) (length regs)) (given x-base (m.r rn) empty)

  place : (up pre : Bool) (ls : Lines) {m1 : Machine}
      → Makes (statements ls) (within (placed_scope up pre) z.scopes z) m1
      → Makes (statements
      (each_on_line (let32 x-base (get (reg rn)) ∷ let32 x-addr (start up pre (length regs * 4)) ∷ [])
      ++ ls)) (enter z) m1
  place up pre ls p =
      step (do_declare x-base empty z.scopes z refl
      (reg_reads {z = within (opened x-base empty) z.scopes z} s (with_scopes a _) rn hn))
      (step
      (do_declare x-addr (given x-base (m.r rn) empty) z.scopes z refl
      (start_reads s rn hn (length regs) hk up pre
      (within (opened x-addr (given x-base (m.r rn) empty)) z.scopes z) refl))
      p)

  start_lt : (up pre : Bool) → MM.start up pre (m.r rn) (length regs) < 4294967296
  start_lt up pre =
      (start_reads s rn hn (length regs) hk up pre (within (placed_scope up pre) z.scopes z) refl
      ).small

  -- the loads, where the base is written before them unless it is listed
  pub load_multiple_ok : Each (λ j. j < 15) regs → (up pre wb inList : Bool)
      → (inList ≡ true → member rn regs ≡ true)
      → Makes (statements (block_mem_body i true rn inList pre up wb regs)) (enter z)
      (let m1 : Machine = cond wb (M.set_reg rn (moved up (m.r rn) (length regs * 4)) m) m in
      set_regs (load_all regs (MM.start up pre (m.r rn) (length regs)) m.mem m1.r) m)
  load_multiple_ok h up pre wb inList hm =
      place up pre (loads_or_stores true i rn wb inList (moved_base up (length regs * 4)) regs)
      (go wb inList hm)
    where
      k : ℕ
      k = MM.start up pre (m.r rn) (length regs)

      x : ℕ
      x = moved up (m.r rn) (length regs * 4)

      u : State
      u = within (placed_scope up pre) z.scopes z

      plain : Makes (statements (loads regs)) u (set_regs (load_all regs k m.mem m.r) m)
      plain =
          loads_ok regs (placed_scope up pre) z.scopes z m k h s.bytes a refl (start_lt up pre)

      off : (j : ℕ) → eqb j rn ≡ false → m.r j ≡ cond (eqb j rn) x (m.r j)
      off j e = rw e

      go : (w il : Bool) → (il ≡ true → member rn regs ≡ true)
          → Makes (statements (loads_or_stores true i rn w il (moved_base up (length regs * 4)) regs))
          u
          (let m1 : Machine =
          cond w (M.set_reg rn x m) m in set_regs (load_all regs k m.mem m1.r) m)
      go false il hm = plain
      go true false hm =
          step (do_reg (moved_reads s rn hn (length regs) hk up u refl) rn (omega (arith, hn)))
          (loads_ok regs (placed_scope up pre) z.scopes (set_c rn x z) (M.set_reg rn x m) k h
          s.bytes (with_reg a rn x hn) refl (start_lt up pre))
      go true true hm =
          let p = plain in
          record {
            end = p.end;
            ends = p.ends;
            same = record {
              regs = λ j l. p.same.regs j l
                  ∙ load_over rn regs k m.mem m.r (M.set_reg rn x m).r (hm refl) off j;
              flags = p.same.flags;
              memory = p.same.memory;
            };
          }

  -- what the manual stores for a register
  abbrev stored_value : Bool → Bool → ℕ → ℕ
  stored_value up wb j =
      cond (wb && eqb j rn && not (eqb j (get_or regs 0 16))) (moved up (m.r rn) (length regs * 4))
      (R m ((pc_value i + 4) % 4294967296) j)

  -- a register as the text stores it
  stored_reads : (up wb : Bool) (j : ℕ) → j ≤ 15 → (u : State) → Regs u m
      → value (var (u32, x-base)) u ≡ some (m.r rn)
      → Reads (stored_reg i rn wb (get_or regs 0 16) (moved_base up (length regs * 4)) j) u
      (stored_value up wb j)
  stored_reads up wb j h u g q =
      go wb (eqb j 15) refl (eqb j rn) refl (eqb j (get_or regs 0 16))
    where
      pc : ℕ
      pc = (pc_value i + 4) % 4294967296

      not-pc : (k : ℕ) → k < 15 → j ≡ 15 → j ≡ k → ⊥
      not-pc k l p e = omega arith

      ahead : Reads (lit word pc) u pc
      ahead = r_word (mod-lt (pc_value i + 4) (lit< tt))

      held : eqb j 15 ≡ false → Reads (get (reg j)) u (m.r j)
      held p =
          r_reg j (omega (arith, h)) (g j (under j h p)) (s.words j (under j h p))

      based : eqb j rn ≡ true → Reads (v32 x-base) u (m.r j)
      based r = to (ap m.r (sym (same_of j rn r))) (base_in s rn hn (length regs) hk u q)

      go : (w b : Bool) → eqb j 15 ≡ b → (c : Bool) → eqb j rn ≡ c → (d : Bool)
          → Reads (cond b (lit word pc)
          (cond c (cond (w && not d) (moved_base up (length regs * 4)) (v32 x-base)) (get (reg j))))
          u
          (cond (w && c && not d) (moved up (m.r rn) (length regs * 4)) (cond b pc (m.r j)))
      go w true p true r d = absurd (not-pc rn hn (same_of j 15 p) (same_of j rn r))
      go true true p false r d = ahead
      go false true p false r d = ahead
      go true false p true r true = based r
      go true false p true r false = moved_reads s rn hn (length regs) hk up u q
      go false false p true r d = based r
      go true false p false r d = held p
      go false false p false r d = held p

  -- a->write32(m, addr & ~3u, e); addr += 4u; for each register, e giving v of it, and what stands
  -- after
  stores_ok : (e : ℕ → Expr) (v : ℕ → ℕ) (tail : Lines) {m1 : Machine} (js : List ℕ) (f : Scope)
      (fs : List Scope) (u : State) (g : ℕ → ℕ) (k : ℕ)
      → Each (λ j. (y : State) → Regs y m → value (var (u32, x-base)) y ≡ some (m.r rn)
      → Reads (e j) y (v j)) js
      → Agrees u (M.set_mem g m) → f (index x-base) ≡ some (u32, some (m.r rn))
      → f (index x-addr) ≡ some (u32, some k) → k < 4294967296
      → ((h : Scope) (y : State) → Agrees y (M.set_mem (store_all v js k g) m)
      → h (index x-base) ≡ some (u32, some (m.r rn))
      → Makes (statements tail) (within h fs y) m1)
      → Makes (statements (stores e js ++ tail)) (within f fs u) m1
  stores_ok e v tail [] f fs u g k h b q t l next = next f u b q
  stores_ok e v tail (j ∷ js) f fs u g k h b q t l next =
      let y : State = set_mem (store w32 (k / 4 * 4) (v j) u.mem) u in
      step
      (do_write (r_aligned (r_var (u32, x-addr) refl (in_scope x-addr f fs u t) l))
      (h.0 (within f fs u) b.regs (in_scope x-base f fs u q)) w32)
      (step (do_plus x-addr f fs y t (r_udec (lit< tt)))
      (stores_ok e v tail js (update (index x-addr) (some (u32, some ((k + 4) % 4294967296))) f) fs
      y (set_memory4 k (v j) g) ((k + 4) % 4294967296) h.1
      (record {
        regs = b.regs;
        flags = b.flags;
        memory = ap (store w32 (k / 4 * 4) (v j)) b.memory;
      }) q refl (mod-lt (k + 4) (lit< tt)) next))

  -- STM
  pub store_multiple_ok : (up pre wb inList : Bool) → Each (λ j. j ≤ 15) regs
      → Makes (statements (block_mem_body i false rn inList pre up wb regs)) (enter z)
      (let m1 : Machine =
      M.set_mem
      (store_all (stored_value up wb) regs (MM.start up pre (m.r rn) (length regs)) m.mem)
      m in
      cond wb (M.set_reg rn (moved up (m.r rn) (length regs * 4)) m1) m1)
  store_multiple_ok up pre wb inList h =
      place up pre (loads_or_stores false i rn wb inList (moved_base up (length regs * 4)) regs)
      (stores_ok _ (stored_value up wb)
      (each_on_line (list_if wb (set_reg rn (moved_base up (length regs * 4))))) regs
      (placed_scope up pre)
      z.scopes z m.mem
      (MM.start up pre (m.r rn) (length regs))
      (each_map (λ j. j ≤ 15) _ (stored_reads up wb) regs h)
      (record { regs = a.regs; flags = a.flags; memory = a.memory }) refl refl (start_lt up pre)
      (go wb))
    where
      m1 : Machine
      m1 =
          M.set_mem
          (store_all (stored_value up wb) regs (MM.start up pre (m.r rn) (length regs)) m.mem) m

      x : ℕ
      x = moved up (m.r rn) (length regs * 4)

      go : (w : Bool) (f : Scope) (y : State) → Agrees y m1
          → f (index x-base) ≡ some (u32, some (m.r rn))
          → Makes (statements (each_on_line (list_if w (set_reg rn (moved_base up (length regs * 4))))))
          (within f z.scopes y) (cond w (M.set_reg rn x m1) m1)
      go false f y b q = stop (with_scopes b _)
      go true f y b q =
          step (do_reg
          (moved_reads s rn hn (length regs) hk up (within f z.scopes y)
          (in_scope x-base f z.scopes y q)) rn (omega (arith, hn)))
          (stop (with_reg (with_scopes b (f ∷ z.scopes)) rn x hn))
