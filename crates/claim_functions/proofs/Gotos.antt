-- A block's text has gotos to keys of its group only, and so code of it leads to such a label, or
-- returns.
use Prim.Native.Nat.{ℕ, ◌+◌}
use mathlib.Core.Path.{◌≡◌, refl, sym, ap, ◌∙◌, subst}
use mathlib.Core.Bool.{Bool, true, false, cond, ◌||◌, beq}
use mathlib.Core.List.{List, [], ◌∷◌, Memᴰ}
use mathlib.Core.Option.{Option, none, some}
use native.Mathlib.Omega.{arith}
use borrow.Author.Tests.{eq-eqb}
use lib.Dec.{T, leb, eqb}
use Rattle.armv4t.specs.Bit0.{clear_bit0}
use Rattle.file_blocks.specs.Address.{outside_rom_bios}
use Rattle.base_lists.specs.Lists.{among}
use Rattle.c_tree.specs.Expr.{u32, word, udec, x-t, x-pc, var, band, Expr, lit, bin}
use Rattle.c_tree.specs.Preamble.{v32}
use Rattle.c_tree.specs.Stmt.{Plain, declare, other, Owner, common, Simple, gap, record_mark, plain}
use Rattle.c_tree.specs.Stmt.{label, goto, ret, ret_if, interp, ret_interp, call, switch, Code, end}
use Rattle.c_tree.specs.Stmt.{◌⨾◌, when, braces}
use Rattle.c_tree.proofs.Statements.{EachStatement}
use Rattle.c_meaning.specs.State.{State, bind, put, interp_answer, after_interp, enter}
use Rattle.c_meaning.specs.State as S
use Rattle.lower_forms.specs.Operands.{flags}
use Rattle.c_meaning.specs.Eval.{eval_as}
use Rattle.c_meaning.specs.Exec.{Goes, on, to, back, Outcome, next, exec, returns, step, runs}
use Rattle.c_meaning.specs.Helpers.{run, rotated, called}
use Rattle.lower_forms.specs.Forms.{Lines, Native, straight, straight_if, branch_if, jump, pair, bx}
use Rattle.lower_forms.specs.Forms.{pop, Form, shell, records_in, Body}
use Rattle.lower_units.specs.Block.{nl, sp, line, lines, goto_code, transfer, closing_lines, closing}
use Rattle.lower_units.specs.Block.{leave, to_thumb, to_arm, conditional, native_text, code_from}
use Rattle.lower_units.specs.Block.{under_guard, block_code}
use Rattle.claim_functions.specs.Execution.{ask, act}
use Rattle.claim_functions.proofs.Outcomes.{goes_of, on_not_to}
use Rattle.lower_forms.proofs.Body.{not_none}

module _ (ks : List ℕ) where
  -- a goto is to one of the keys
  abbrev pub Inside : Simple → Type 0
  Inside (gap l n) = Unit {0}
  Inside (record_mark k i n) = Unit {0}
  Inside (plain o p) = Unit {0}
  Inside (label k) = Unit {0}
  Inside (goto o k) = T (among k ks)
  Inside (ret o e) = Unit {0}
  Inside (ret_if o t e) = Unit {0}
  Inside (interp k i) = Unit {0}
  Inside (ret_interp k i) = Unit {0}
  Inside (call k n) = Unit {0}
  Inside (switch ls) = Unit {0}

  abbrev Inner : Code → Type 0
  Inner c = EachStatement Inside c

  in_line : (o : Owner) (ps : List Plain) (c : Code) → Inner c → Inner (line o ps c)
  in_line o [] c h = h
  in_line o (p ∷ []) c h = (tt, h)
  in_line o (p ∷ q ∷ ps) c h = (tt, (tt, in_line o (q ∷ ps) c h))

  in_lines : (o : Owner) (n : ℕ) (ls : Lines) (c : Code) → Inner c → Inner (lines o n ls c)
  in_lines o n [] c h = h
  in_lines o n (l ∷ ls) c h = (tt, in_line o l (nl ⨾ lines o n ls c) (tt, in_lines o n ls c h))

  in_transfer : (a : ℕ) (o : Owner) (n k : ℕ) (c : Code) → Inner c → Inner (transfer ks a o n k c)
  unfolding transfer goto_code
  in_transfer a o n k c h = go (among k ks) refl (leb (clear_bit0 k) a)
    where
      go : (x : Bool) → among k ks ≡ x → (y : Bool)
          → Inner (cond x (goto_code y o n k c) (sp n ⨾ ret o (lit word k) ⨾ nl ⨾ c))
      go true e true = (tt, (tt, (tt, (tt, (subst T (sym e) tt, (tt, h))))))
      go true e false = (tt, (subst T (sym e) tt, (tt, h)))
      go false e y = (tt, (tt, (tt, h)))

  in_closing : (b : Body) → Inner (closing ks b)
  unfolding closing
  in_closing b = in_lines common 4 (closing_lines b) _ (in_transfer b.addr common 4 _ end tt)

  in_conditional : (o : Owner) (e : Expr) (b c : Code) → Inner b → Inner c
      → Inner (conditional o e b c)
  in_conditional o e b c p q = (
    tt,
    (
      (
        tt,
        in_line o flags (gap true 6 ⨾ when o false (other e) b (sp 1 ⨾ end))
            (tt, (p, (tt, tt))),
      ),
      (tt, q),
    ),
  )

  in_native : (a : ℕ) (o : Owner) (r : Native) (c : Code) → Inner c → Inner (native_text ks a o r c)
  unfolding native_text
  in_native a o (straight t l) c h =
      in_lines o 4 t (sp 4 ⨾ braces (nl ⨾ lines o 8 l (sp 4 ⨾ end)) (nl ⨾ c))
      (tt, ((tt, in_lines o 8 l (sp 4 ⨾ end) (tt, tt)), (tt, h)))
  in_native a o (straight_if t e l) c h =
      let d : Code = nl ⨾ lines o 8 l (sp 6 ⨾ end) in
      in_lines o 4 t (conditional o e d c)
      (in_conditional o e d c (tt, in_lines o 8 l (sp 6 ⨾ end) (tt, tt)) h)
  in_native a o (branch_if t e l k) c h =
      let d : Code = nl ⨾ transfer ks a o 8 k (sp 6 ⨾ end) in
      in_lines o 4 t (conditional o e (sp 1 ⨾ line o l d) c)
      (in_conditional o e (sp 1 ⨾ line o l d) c
      (tt, in_line o l d (tt, in_transfer a o 8 k (sp 6 ⨾ end) (tt, tt))) h)
  in_native a o (jump t k) c h =
      in_lines o 4 t (transfer ks a o 4 k end) (in_transfer a o 4 k end tt)
  in_native a o (pair t k) c h =
      in_lines o 4 t (transfer ks a o 4 k end) (in_transfer a o 4 k end tt)
  in_native a o (bx t e) c h =
      let d : Code = sp 1 ⨾ plain o (declare (u32, x-t) e []) ⨾ gap true 6
      ⨾ when o false (other (bin band (v32 x-t) (lit udec 1))) (to_thumb o) (to_arm o) in
      in_lines o 4 t (sp 4 ⨾ braces d (nl ⨾ end)) (
        tt,
        (
          (
            tt,
            (
              tt,
              (
                tt,
                (
                  (tt, (tt, (tt, (tt, (tt, (tt, (tt, tt))))))),
                  (tt, (tt, (tt, (tt, (tt, (tt, (tt, tt))))))),
                ),
              ),
            ),
          ),
          (tt, tt),
        ),
      )
  in_native a o (pop t p l q e) c h =
      let d : Code = sp 6 ⨾ plain o q ⨾ leave o e in
      in_lines o 4 t (sp 4 ⨾ braces (sp 1 ⨾ plain o p ⨾ nl ⨾ lines o 6 l d) (nl ⨾ end))
      (tt, ((tt, (tt, (tt, in_lines o 6 l d (tt, (tt, (tt, (tt, (tt, tt)))))))), (tt, tt)))

  module _ (b : Body) where
    in_code : (rs : List Form) (i : ℕ) → Inner (code_from ks b i rs)
    unfolding code_from
    in_code [] i = in_closing b
    in_code (Form.native r ∷ rs) i = (tt, in_native b.addr _ r _ (in_code rs (i + records_in r)))
    in_code (shell h t k ∷ []) i = in_lines common 4 t _ (tt, (tt, (tt, either h)))
      where
        either : (x : Bool) → Inner (cond x (closing ks b) end)
        either true = in_closing b
        either false = tt
    in_code (shell h t k ∷ r ∷ rs) i =
        in_lines common 4 t _ (tt, (tt, (tt, (tt, (tt, in_code (r ∷ rs) (i + 1))))))

    in_guard : (y : Option ℕ) → Inner (under_guard ks b y)
    unfolding under_guard
    in_guard none = (tt, (tt, (tt, (tt, (tt, tt)))))
    in_guard (some h) = (tt, ((tt, (tt, (tt, (tt, (tt, tt))))), (tt, in_code b.forms 0)))

    pub in_block : Inner (block_code ks b)
    unfolding block_code
    in_block = go (outside_rom_bios b.addr)
      where
        go : (x : Bool) → Inner (cond x (under_guard ks b b.hash) (code_from ks b 0 b.forms))
        go true = in_guard b.hash
        go false = in_code b.forms 0

pub among_key : (k : ℕ) (ks : List ℕ) → Memᴰ k ks → T (among k ks)
among_key k [] m = elim m [ ]
among_key k (j ∷ ks) (Memᴰ.head e) = rw (eq-eqb k j e) tt
among_key k (j ∷ ks) (Memᴰ.tail m) = go (eqb k j) (among_key k ks m)
  where
    go : (x : Bool) → T (among k ks) → T (x || among k ks)
    go true t = tt
    go false t = t

-- what leads to a label is a goto to it
to_of : (k l : ℕ) (u w : State) → ◌≡◌ {A = Outcome} (some (u, to k)) (some (w, to l)) → k ≡ l
to_of k l u w e = let p : to k ≡ to l = ap goes_of e in cc

not_to : {k : ℕ} {o : Outcome} {u : State} → goes_of o ≡ on → o ≡ some (u, to k) → ⊥
not_to p e = on_not_to (sym p ∙ ap goes_of e)

module _ (ks : List ℕ) where
  only_on : (o : Option State) → goes_of (bind {B = State × Goes} o (λ v. some (v, on))) ≡ on
  only_on none = refl
  only_on (some v) = refl

  returns_not : (o : Option ℕ) (z u : State) (k : ℕ)
      → bind {B = State × Goes} o (λ v. some (z, back v)) ≡ some (u, to k) → ⊥
  returns_not none z u k e = not_none e
  returns_not (some v) z u k e =
      let p : back v ≡ to k = ap goes_of e in (let y : ◌≡◌ {A = ℕ} 0 1 = cc in omega arith)

  act_to : (s : Simple) → Inside ks s → (z u : State) (k : ℕ) → act s z ≡ some (u, to k)
      → T (among k ks)
  unfolding step
  act_to (gap l n) h z u k e = absurd (not_to refl e)
  act_to (record_mark j i n) h z u k e = absurd (not_to refl e)
  act_to (plain o p) h z u k e = absurd (not_to (only_on (exec rotated called p z)) e)
  act_to (label j) h z u k e = absurd (not_to refl e)
  act_to (goto o j) h z u k e = subst (λ l. T (among l ks)) (to_of j k z u e) h
  act_to (ret o t) h z u k e = absurd (returns_not (eval_as rotated u32 t z) z u k e)
  act_to (ret_if o t v) h z u k e = absurd (go (ask t z) e)
    where
      pick : (x : Bool) (w : State)
          → cond x (returns rotated called v w) (some (w, on)) ≡ some (u, to k) → ⊥
      pick true w e = returns_not (eval_as rotated u32 v w) w u k e
      pick false w e = not_to refl e

      go : (q : Option (Bool × State))
          → bind q (λ r. cond r.0 (returns rotated called v r.1) (some (r.1, on)))
          ≡ some (u, to k) → ⊥
      go none e = not_none e
      go (some r) e = pick r.0 r.1 e
  act_to (interp j i) h z u k e =
      absurd (not_to (only_on (put (var (u32, x-pc)) (interp_answer z) (after_interp z))) e)
  act_to (ret_interp j i) h z u k e =
      absurd (returns_not (some (interp_answer z)) (after_interp z) u k e)
  act_to (call j n) h z u k e = absurd (not_none e)
  act_to (switch ls) h z u k e = absurd (not_none e)

  -- after an outcome whose state a closing brace may change
  after_to : (f : State → State) (c : Code)
      → ((z u : State) (k : ℕ) → run c z ≡ some (u, to k) → T (among k ks))
      → (u : State) (k : ℕ) (o : Outcome)
      → ((w : State) (l : ℕ) → o ≡ some (w, to l) → T (among l ks))
      → bind o (λ q. next q.1 (f q.0) (run c)) ≡ some (u, to k) → T (among k ks)
  after_to f c h u k none p e = absurd (not_none e)
  after_to f c h u k (some (w, on)) p e = h (f w) u k e
  after_to f c h u k (some (w, to l)) p e =
      subst (λ l. T (among l ks)) (to_of l k (f w) u e) (p w l refl)
  after_to f c h u k (some (w, back v)) p e = absurd (returns_not (some v) (f w) u k e)

  -- code whose gotos are to some keys leads to one of them
  pub run_to_inside : (c : Code) → EachStatement (Inside ks) c → (z u : State) (k : ℕ)
      → run c z ≡ some (u, to k) → T (among k ks)
  unfolding run runs
  run_to_inside end h z u k e = absurd (not_to refl e)
  run_to_inside (s ⨾ c) h z u k e =
      after_to (λ w. w) c (run_to_inside c h.1) u k (act s z) (λ w l p. act_to s h.0 z w l p)
      e
  run_to_inside (when o n t b c) h z u k e =
      go (run_to_inside b h.0) (run_to_inside c h.1) (ask t z) e
    where
      go : ((z u : State) (k : ℕ) → run b z ≡ some (u, to k) → T (among k ks))
          → ((z u : State) (k : ℕ) → run c z ≡ some (u, to k) → T (among k ks))
          → (q : Option (Bool × State))
          → bind q
          (λ q. cond (beq n q.0) (run c q.1)
          (bind (run b (enter q.1)) λ r. next r.1 (S.leave r.0) (run c)))
          ≡ some (u, to k) → T (among k ks)
      go f g none e = absurd (not_none e)
      go f g (some q) e = pick (beq n q.0) e
        where
          pick : (x : Bool)
              → cond x (run c q.1)
              (bind (run b (enter q.1)) λ r. next r.1 (S.leave r.0) (run c))
              ≡ some (u, to k) → T (among k ks)
          pick true e = g q.1 u k e
          pick false e =
              after_to S.leave c g u k (run b (enter q.1)) (λ w l p. f (enter q.1) w l p) e
  run_to_inside (braces b c) h z u k e =
      after_to S.leave c (run_to_inside c h.1) u k (run b (enter z))
      (λ w l p. run_to_inside b h.0 (enter z) w l p) e
