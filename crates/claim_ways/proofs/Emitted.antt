-- A block's text is checked by each logic that has rules for the block.
use Prim.Native.Nat.{ℕ, ◌+◌, ◌<◌}
use mathlib.Core.Path.{◌≡◌, refl}
use mathlib.Core.Logic.{◌⊎◌, inl, inr}
use mathlib.Core.Bool.{Bool, true, false, not, cond, ◌||◌}
use mathlib.Core.List.{List, [], ◌∷◌, Memᴰ}
use mathlib.Core.Option.{Option, none, some}
use lib.Dec.{T, leb, eqb, eqb→eq, nleb→lt}
use Rattle.armv4t.specs.Bit0.{clear_bit0}
use Rattle.c_tree.specs.Expr.{u32, word, udec, x-t, x-pc, ne, band, Expr, lit, bin}
use Rattle.c_tree.specs.Stmt.{Plain, declare, Test, guard, gate, other, Owner, common, gap, plain}
use Rattle.c_tree.specs.Stmt.{goto, ret, ret_if, ret_interp, Code, end, ◌⨾◌, when}
use Rattle.c_tree.specs.Preamble.{v32}
use Rattle.lower_forms.specs.Forms.{Lines, Native, straight, straight_if, branch_if, jump, pair, bx}
use Rattle.lower_forms.specs.Forms.{pop, Form, shell, records_in, Body}
use Rattle.lower_forms.proofs.RecordCount.{record_counts}
use Rattle.lower_forms.specs.Operands.{flags}
use Rattle.lower_units.specs.Block.{body_key, body_length, nl, sp, line, lines, goto_code, transfer}
use Rattle.lower_units.specs.Block.{closing, leave, to_thumb, to_arm, conditional, native_text}
use Rattle.lower_units.specs.Block.{code_from, defer, under_guard, block_code, closing_lines}
use Rattle.file_blocks.specs.Address.{outside_rom_bios}
use Rattle.base_lists.specs.Lists.{among}
use Rattle.claim_ways.specs.Ways.{Event, reach, said, native_start, interpreted}
use Rattle.claim_ways.proofs.Logic.{Logic, Pick, Ok}

-- an event of the block that carries out nothing and asks no guard
pub data Quiet (b : Body) : Event → Type 0 where
  q_native : Quiet b (reach (Owner.native_of (body_key b)))
  q_none : Quiet b (reach common)
  q_other : {t : Expr} {x : Bool} → Quiet b (said (other t) x)
  q_gate : {x : Bool} → Quiet b (said gate x)

-- Inv p w: at place p, with w instructions of the block left, the guard passed where there is one;
-- Pre: at the block's label
pub record Rules (L : Logic) (b : Body) (ks : List ℕ) : Type 1 where
  pub Inv : ℕ → ℕ → L.S → Type 0
  pub Pre : L.S → Type 0
  pub quiet : (p w : ℕ) (s : L.S) (e : Event) → Inv p w s → Quiet b e
      → L.allow s e × Inv p w (L.step s e)
  pub carry : (p n w : ℕ) (s : L.S) → Inv p (n + w) s
      → L.allow s (native_start (body_key b) p n)
      × Inv (p + n) w (L.step s (native_start (body_key b) p n))
  pub shells : (p w : ℕ) (s : L.S) → Inv p (1 + w) s
      → L.allow s (interpreted (body_key b) p)
      × Inv (p + 1) w (L.step s (interpreted (body_key b) p))
  pub up : (p w : ℕ) (s : L.S) (k : ℕ) → Inv p w s → Memᴰ k ks → b.addr < clear_bit0 k
      → L.owed k s
  pub back : (p w : ℕ) (s : L.S) (k : ℕ) (o : Owner) (x : Bool) → Inv p w s → Memᴰ k ks
      → L.owed k (L.step (L.step s (said gate x)) (reach o))
  pub free : (s : L.S) → T (not (outside_rom_bios b.addr)) → Pre s
      → Inv 0 (record_counts b.forms) s
  pub asks : (s : L.S) (h : ℕ) (x : Bool) → Pre s
      → L.allow s (reach common)
      × L.allow (L.step s (reach common)) (said (guard b.addr (body_length b) h) x)
      × Pre (L.step (L.step s (reach common)) (said (guard b.addr (body_length b) h) x))
  pub yes_of : (s : L.S) (h : ℕ) → b.hash ≡ some h → Pre s
      → Inv 0 (record_counts b.forms)
      (L.step (L.step s (reach common)) (said (guard b.addr (body_length b) h) true))
  pub lands : (s : L.S) → L.owed (body_key b) s → Pre s
  pub defers : (s : L.S) → Pre s
      → L.allow s (reach common) × L.allow (L.step s (reach common)) (interpreted (body_key b) 0)

or_cases : (x y : Bool) → T (x || y) → T x ⊎ T y
or_cases true y t = inl tt
or_cases false y t = inr t

pub among→mem : (k : ℕ) (ks : List ℕ) → T (among k ks) → Memᴰ k ks
among→mem k [] t = absurd t
among→mem k (j ∷ js) t = go (or_cases (eqb k j) (among k js) t) (among→mem k js)
  where
    go : T (eqb k j) ⊎ T (among k js) → (T (among k js) → Memᴰ k js) → Memᴰ k (j ∷ js)
    go (inl h) f = Memᴰ.head (eqb→eq k j h)
    go (inr h) f = Memᴰ.tail (f h)

module _ (L : Logic) (b : Body) (ks : List ℕ) (R : Rules L b ks) where
  open L use {S, step, allow, owed}
  open R use {Inv, Pre, quiet, carry, shells, up, back, free, asks, yes_of, defers}

  -- the invariant leads to the text's check
  abbrev Fits : ℕ → ℕ → Code → (S → Type 0) → Type 0
  Fits p w c K = (s : S) → Inv p w s → Ok L c s K

  module _ (p w : ℕ) (o : Owner) (u : Quiet b (reach o)) where
    ok_ret : (t : Expr) (c : Code) (K : S → Type 0) → Fits p w (sp 1 ⨾ ret o t ⨾ c) K
    ok_ret t c K s i = (quiet p w s (reach o) i u).0

    ok_ret_if : (t : Test) → ((x : Bool) → Quiet b (said t x))
        → (e : Expr) (c : Code) (K : S → Type 0)
        → ((s : S) → Inv p w s → Ok L c (step (step s (reach o)) (said t false)) K)
        → Fits p w (ret_if o t e ⨾ c) K
    ok_ret_if t v e c K f s i =
        let a = quiet p w s (reach o) i u in (
          a.0,
          λ x. (
            (quiet p w _ (said t x) a.1 (v x)).0,
            go x
                (quiet p w _ (said t x) a.1 (v x)).1,
          ),
        )
      where
        s₁ : S
        s₁ = step s (reach o)

        go : (x : Bool) → Inv p w (step s₁ (said t x))
            → Pick x (allow (step s₁ (said t x)) (reach o)) (Ok L c (step s₁ (said t x)) K)
        go true j = (quiet p w _ (reach o) j u).0
        go false j = f s i

    ok_line : (ts : List Plain) (c : Code) (K : S → Type 0) → Fits p w c K
        → Fits p w (line o ts c) K
    ok_line [] c K f s i = f s i
    ok_line (t ∷ []) c K f s i =
        let a = quiet p w s (reach o) i u in (a.0, f (step s (reach o)) a.1)
    ok_line (t ∷ v ∷ ts) c K f s i = let a = quiet p w s (reach o) i u in
        (a.0, ok_line (v ∷ ts) c K f (step s (reach o)) a.1)

    ok_lines : (n : ℕ) (ls : Lines) (c : Code) (K : S → Type 0) → Fits p w c K
        → Fits p w (lines o n ls c) K
    ok_lines n [] c K f = f
    ok_lines n (l ∷ ls) c K f = ok_line l (nl ⨾ lines o n ls c) K (ok_lines n ls c K f)

    -- if (cond) { body } rest
    ok_when : (t : Expr) (c d : Code) (K : S → Type 0) → Fits p w c (λ s. Ok L d s K) → Fits p w d K
        → Fits p w (when o false (other t) c d) K
    ok_when t c d K f g s i =
        let a = quiet p w s (reach o) i u in (
          a.0,
          λ x. let e =
              quiet p w (step s (reach o)) (said (other t) x) a.1 q_other in (e.0, go x e.1),
        )
      where
        s₁ : S
        s₁ = step s (reach o)

        go : (x : Bool) → Inv p w (step s₁ (said (other t) x))
            → Pick x (Ok L c (step s₁ (said (other t) x)) (λ s'. Ok L d s' K))
            (Ok L d (step s₁ (said (other t) x)) K)
        go true j = f _ j
        go false j = g _ j

    ok_goto : (n k : ℕ) → Memᴰ k ks → (y : Bool) → (T (not y) → b.addr < clear_bit0 k)
        → (c : Code) (K : S → Type 0) → Fits p w (goto_code y o n k c) K
    unfolding goto_code
    ok_goto n k m true h c K =
        ok_ret_if gate (λ x. q_gate) (lit word k) (nl ⨾ sp n ⨾ goto o k ⨾ nl ⨾ c) K
        (λ s i.
        let a = quiet p w s (reach o) i u in
        let d = quiet p w _ (said gate false) a.1 q_gate in
        ((quiet p w _ (reach o) d.1 u).0, back p w _ k o false a.1 m))
    ok_goto n k m false h c K = λ s i. let a = quiet p w s (reach o) i u in
        (a.0, up p w (step s (reach o)) k a.1 m (h tt))

    ok_transfer : (n k : ℕ) (c : Code) (K : S → Type 0) → Fits p w (transfer ks b.addr o n k c) K
    unfolding transfer
    ok_transfer n k c K = go (among k ks) (among→mem k ks)
      where
        go : (x : Bool) → (T x → Memᴰ k ks)
            → Fits p w
            (cond x (goto_code (leb (clear_bit0 k) b.addr) o n k c)
            (sp n ⨾ ret o (lit word k) ⨾ nl ⨾ c)) K
        go true m =
            ok_goto n k (m tt) (leb (clear_bit0 k) b.addr) (nleb→lt (clear_bit0 k) b.addr) c K
        go false m = λ s i. (quiet p w s (reach o) i u).0

    -- { flags; if (e) { d } }, and c after it
    ok_conditional : (e : Expr) (d c : Code) (K : S → Type 0) → Fits p w d (λ s. Ok L c s K)
        → Fits p w c K → Fits p w (conditional o e d c) K
    ok_conditional e d c K f g =
        ok_line flags (gap true 6 ⨾ when o false (other e) d (sp 1 ⨾ end)) (λ s. Ok L c s K)
        (ok_when e d (sp 1 ⨾ end) (λ s. Ok L c s K) f g)

    -- one statement
    ok_plain : (q : Plain) (c : Code) (K : S → Type 0) → Fits p w c K → Fits p w (plain o q ⨾ c) K
    ok_plain q c K f = ok_line (q ∷ []) c K f

    ok_to_thumb : (K : S → Type 0) → Fits p w (to_thumb o) K
    ok_to_thumb K s i = let a = quiet p w s (reach o) i u in
        let d = quiet p w _ (reach o) a.1 u in (a.0, (d.0, (quiet p w _ (reach o) d.1 u).0))

    ok_to_arm : (K : S → Type 0) → Fits p w (to_arm o) K
    ok_to_arm K s i = let a = quiet p w s (reach o) i u in let d = quiet p w _ (reach o) a.1 u in
        (a.0, (d.0, (quiet p w _ (reach o) d.1 u).0))

    -- the text of one native record
    ok_native : (r : Native) (c : Code) (K : S → Type 0) → Fits p w c K
        → Fits p w (native_text ks b.addr o r c) K
    unfolding native_text
    ok_native (straight t l) c K f =
        ok_lines 4 t _ K (ok_lines 8 l (sp 4 ⨾ end) (λ s. Ok L c s K) f)
    ok_native (straight_if t e l) c K f =
        let d : Code = nl ⨾ lines o 8 l (sp 6 ⨾ end) in
        ok_lines 4 t (conditional o e d c) K
        (ok_conditional e d c K (ok_lines 8 l (sp 6 ⨾ end) (λ s. Ok L c s K) f) f)
    ok_native (branch_if t e l k) c K f =
        let d : Code = nl ⨾ transfer ks b.addr o 8 k (sp 6 ⨾ end) in
        ok_lines 4 t (conditional o e (sp 1 ⨾ line o l d) c) K
        (ok_conditional e (sp 1 ⨾ line o l d) c K
        (ok_line l d (λ s. Ok L c s K) (ok_transfer 8 k (sp 6 ⨾ end) (λ s. Ok L c s K))) f)
    ok_native (jump t k) c K f = ok_lines 4 t _ K (ok_transfer 4 k end K)
    ok_native (pair t k) c K f = ok_lines 4 t _ K (ok_transfer 4 k end K)
    ok_native (bx t e) c K f =
        let d : Code =
        when o false (other (bin band (v32 x-t) (lit udec 1))) (to_thumb o) (to_arm o) in
        ok_lines 4 t _ K
        (ok_plain (declare (u32, x-t) e []) (gap true 6 ⨾ d) K
        (ok_when (bin band (v32 x-t) (lit udec 1)) (to_thumb o) (to_arm o) K
        (ok_to_thumb (λ s. Ok L (to_arm o) s K)) (ok_to_arm K)))
    ok_native (pop t q l m v) c K f =
        ok_lines 4 t _ K
        (ok_plain q (nl ⨾ lines o 6 l (sp 6 ⨾ plain o m ⨾ leave o v)) K
        (ok_lines 6 l (sp 6 ⨾ plain o m ⨾ leave o v) K
        (ok_plain m (leave o v) K (ok_ret v (sp 1 ⨾ end) K))))

  ok_closing : (p w : ℕ) (K : S → Type 0) → Fits p w (closing ks b) K
  unfolding closing
  ok_closing p w K =
      ok_lines p w common q_none 4 (closing_lines b) _ K (ok_transfer p w common q_none 4 _ end K)

  ok_code : (rs : List Form) (p : ℕ) (K : S → Type 0)
      → Fits p (record_counts rs) (code_from ks b p rs) K
  unfolding code_from
  ok_code [] p K s i = ok_closing p 0 K s i
  ok_code (Form.native r ∷ rs) p K s i =
      let d = carry p (records_in r) (record_counts rs) s i in (
        d.0,
        ok_native (p + records_in r) (record_counts rs) (Owner.native_of (body_key b)) q_native r _ K
            (ok_code rs (p + records_in r) K) _ d.1,
      )
  ok_code (shell h t e ∷ []) p K s i =
      ok_lines _ _ _ q_none 4 t (sp 4 ⨾ ret_interp (body_key b) p ⨾ nl ⨾ cond h (closing ks b) end) K
      (λ s' j. (shells p 0 s' j).0) s i
  ok_code (shell h t e ∷ r ∷ rs) p K s i =
      ok_lines _ _ _ q_none 4 t _ K
      (λ s' j.
      let d = shells p (record_counts (r ∷ rs)) s' j in (
        d.0,
        ok_ret_if _ _ common q_none (other (bin ne (v32 x-pc) (lit word e))) (λ x. q_other)
            (v32 x-pc) (nl ⨾ code_from ks b (p + 1) (r ∷ rs)) K
            (λ s'' j'.
            let a = quiet _ _ s'' (reach common) j' q_none in
            ok_code (r ∷ rs) (p + 1) K _
            (quiet _ _ _ (said (other (bin ne (v32 x-pc) (lit word e))) false) a.1 q_other
            ).1)
            _ d.1,
      ))
      s i

  pub ok_block : (K : S → Type 0) (s : S) → Pre s → Ok L (block_code ks b) s K
  unfolding block_code under_guard
  ok_block K s i = go (outside_rom_bios b.addr) (λ t. free s t i)
    where
      ask : (h : ℕ) → b.hash ≡ some h → Ok L (under_guard ks b (some h)) s K
      ask h e = ((asks s h true i).0, λ x. ((asks s h x i).1, pass x))
        where
          pass : (x : Bool)
              → Pick (not x)
              (Ok L (defer b (sp 1 ⨾ end))
              (step (step s (reach common)) (said (guard b.addr (body_length b) h) x))
              (λ s'. Ok L (code_from ks b 0 b.forms) s' K))
              (Ok L (code_from ks b 0 b.forms)
              (step (step s (reach common)) (said (guard b.addr (body_length b) h) x)) K)
          pass true = ok_code b.forms 0 K _ (yes_of s h e i)
          pass false = defers _ (asks s h false i).2

      under : (y : Option ℕ) → b.hash ≡ y → Ok L (under_guard ks b y) s K
      under none e = defers s i
      under (some h) e = ask h e

      go : (x : Bool) → (T (not x) → Inv 0 (record_counts b.forms) s)
          → Ok L (cond x (under_guard ks b b.hash) (code_from ks b 0 b.forms)) s K
      go true f = under b.hash refl
      go false f = ok_code b.forms 0 K s (f tt)
