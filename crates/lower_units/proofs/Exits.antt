-- Transfers out of a block: they lead to their key, by goto or return; and branches.
use Prim.Native.Nat.{ℕ, zero, suc, ◌<◌}
use mathlib.Core.Path.{◌≡◌, refl, ap, ◌∙◌}
use mathlib.Core.Bool.{Bool, true, false, cond}
use mathlib.Core.List.{List, [], ◌∷◌, ◌++◌}
use mathlib.Core.Option.{Option, some}
use lib.Dec.{leb, eqb, lit<}
use Rattle.armv4t.specs.declared.Cond.{Cond}
use Rattle.armv4t.specs.Bit0.{clear_bit0}
use Rattle.c_tree.specs.Expr.{Expr}
use Rattle.c_tree.specs.Stmt.{Plain, other, Owner, gap, Code, end, ◌⨾◌, when, braces}
use Rattle.c_meaning.specs.State.{bind, State, set_c, answered, enter, leave}
use Rattle.c_meaning.specs.Eval.{eval, eval_as}
use Rattle.c_meaning.specs.Exec.{Goes, on, to, back, Outcome, next, asks, exec, step, runs}
use Rattle.c_meaning.specs.Perform.{execs, perform}
use Rattle.c_meaning.specs.Helpers.{rotated, run}
use Rattle.lower_forms.specs.Forms.{Lines, jump, branch_if}
use Rattle.lower_forms.specs.Operands.{cond_expr, flags}
use Rattle.lower_forms.specs.InlineBody.{list_if, each_on_line}
use Rattle.lower_forms.specs.Block.{flush_ticks, set_word}
use Rattle.base_lists.specs.Lists.{among}
use Rattle.lower_units.specs.Block.{nl, sp, line, conditional, goto_code, transfer, native_text}
use Rattle.armv4t_manual.specs.Machine.{Machine, set_reg, Sound}
use Rattle.armv4t_manual.specs.Conditions.{passed}
use Rattle.armv4t_manual.specs.Unsaid.{is_nv}
use Rattle.lower_forms.specs.Agree.{Agrees}
use Rattle.lower_forms.specs.Means.{statements}
use Rattle.lower_units.specs.Text.{Continues, destination, Leaves}
use Rattle.lower_forms.proofs.Gives.{lt_true}
use Rattle.lower_units.proofs.Lines.{run_line, run_lines}
use Rattle.lower_forms.proofs.Body.{not_none, all_of}
use Rattle.lower_forms.proofs.Conditions.{declared}
use Rattle.lower_units.proofs.Wrapped.{after_ticks, when_false, flagged, test, framed}
use Rattle.lower_forms.proofs.Steps.{ne, with_scopes, with_reg}

-- a transfer to a key leads there, and touches neither registers nor memory
pub record Transfers (ks : List ℕ) (a : ℕ) (o : Owner) (n k : ℕ) (z : State) : Type 0 where
  pub end : State
  pub exit : Goes
  pub ends : (c : Code) → run (transfer ks a o n k c) z ≡ some (end, exit)
  pub leads : destination exit ≡ some k
  pub regs : end.c ≡ z.c
  pub memory : end.mem ≡ z.mem

-- the transfer by the answers of the group and of the gate
pub transfers : (ks : List ℕ) (a : ℕ) (o : Owner) (n k : ℕ) (z : State) → k < 4294967296
    → Transfers ks a o n k z
unfolding transfer goto_code run runs step asks eval_as eval
transfers ks a o n k z h =
    go (among k ks) refl (leb (clear_bit0 k) a) refl (eqb (z.answers 0) 0) refl
  where
    go : (b : Bool) → among k ks ≡ b → (d : Bool) → leb (clear_bit0 k) a ≡ d → (y : Bool)
        → eqb (z.answers 0) 0 ≡ y → Transfers ks a o n k z
    go false p d q y r =
        record {
          end = z;
          exit = back k;
          ends = λ c. rw (p, lt_true h);
          leads = refl;
          regs = refl;
          memory = refl;
        }
    go true p false q y r =
        record {
          end = z;
          exit = to k;
          ends = λ c. rw (p, q);
          leads = refl;
          regs = refl;
          memory = refl;
        }
    go true p true q true r =
        record {
          end = answered z;
          exit = to k;
          ends = λ c. rw (p, q, r);
          leads = refl;
          regs = refl;
          memory = refl;
        }
    go true p true q false r =
        record {
          end = answered z;
          exit = back k;
          ends = λ c. rw (p, q, r, lt_true h);
          leads = refl;
          regs = refl;
          memory = refl;
        }

-- the state after what a branch sets: R14 if it links, and c[15]
abbrev branched : Bool → ℕ → ℕ → State → State
branched link ret target z = set_c 15 target (cond link (set_c 14 ret z) z)

sets_do : (link : Bool) (ret target : ℕ) → ret < 4294967296 → target < 4294967296 → (z : State)
    → perform (list_if link (set_word 14 ret) ++ (set_word 15 target ∷ [])) z
    ≡ some (branched link ret target z)
unfolding perform execs exec eval
sets_do true ret target h l z = rw (lt_true h, lt_true l)
sets_do false ret target h l z = rw (lt_true l)

-- c[15] is no register of the machine
pub with_pc : {z : State} {m : Machine} → Agrees z m → (x : ℕ) → Agrees (set_c 15 x z) m
with_pc a x =
    record { regs = λ i l. rw (ne i 15 l) (a.regs i l); flags = a.flags; memory = a.memory }

branched_agrees : {z : State} {m : Machine} → Agrees z m → (link : Bool) (ret target : ℕ)
    → Agrees (branched link ret target z) (cond link (set_reg 14 ret m) m)
branched_agrees a true ret target = with_pc (with_reg a 14 ret (lit< tt)) target
branched_agrees a false ret target = with_pc a target

-- ticks before lines
pub ticks_first : (n : ℕ) (ls : Lines) (z : State)
    → perform (statements (flush_ticks n ++ ls)) z ≡ perform (statements ls) z
unfolding perform execs exec
ticks_first zero ls z = refl
ticks_first (suc n) ls z = refl

-- the same registers and memory, the same machine
pub moved_on : {z y : State} {m : Machine} → Agrees z m → y.c ≡ z.c → y.mem ≡ z.mem → Agrees y m
moved_on {z} {y} {m} a p q =
    record {
      regs = λ i l. ap (λ (f : ℕ → ℕ). f i) p
          ∙ a.regs i l;
      flags = ap (λ (f : ℕ → ℕ). f 16) p ∙ a.flags;
      memory = q ∙ a.memory;
    }

module _ (ks : List ℕ) (a : ℕ) (o : Owner) (n : ℕ) (link : Bool) (ret target k : ℕ)
    (hr : ret < 4294967296) (ht : target < 4294967296) (hk : k < 4294967296)
    (addr : target ≡ clear_bit0 k) {z : State} {m : Machine} (g : Agrees z m) where
  -- ..; transfer
  pub jump_leaves : Leaves
      (native_text ks a o
      (jump (flush_ticks n ++ each_on_line (list_if link (set_word 14 ret) ++ (set_word 15 target ∷ [])))
      k)) z
      (cond link (set_reg 14 ret m) m, k)
  unfolding native_text
  jump_leaves =
      let y : State = branched link ret target z in
      let t = transfers ks a o 4 k y hk in
      record {
        end = t.end;
        exit = t.exit;
        ends = λ c.
            run_lines o 4 (flush_ticks n ++ each_on_line ps) (transfer ks a o 4 k end) z
            ∙ ap (λ (q : Option State). bind q (run (transfer ks a o 4 k end)))
            (ticks_first n (each_on_line ps) z ∙ ap (λ (qs : List Plain). perform qs z) (all_of ps)
            ∙ sets_do link ret target hr ht z)
            ∙ t.ends end;
        leads = t.leads;
        pc = ap (λ (f : ℕ → ℕ). f 15) t.regs ∙ addr;
        same = moved_on (branched_agrees g link ret target) t.regs t.memory;
      }
    where
      ps : List Plain
      ps = list_if link (set_word 14 ret) ++ (set_word 15 target ∷ [])

-- what leads away leads past what stands after
away : (w : Goes) (z : State) (f : State → Outcome) {k : ℕ} → destination w ≡ some k
    → next w z f ≡ some (z, w)
away on z f e = absurd (not_none e)
away (to l) z f e = refl
away (back l) z f e = refl

pub closed_out : (b c : Code) (z : State) (w : Goes) {y : State} {k : ℕ} → destination w ≡ some k
    → run b (enter z) ≡ some (y, w) → run (braces b c) z ≡ some (leave y, w)
unfolding run runs
closed_out b c z w {y} h e =
    ap (λ (q : Outcome). bind q (λ r. next r.1 (leave r.0) (run c))) e
    ∙ away w (leave y) (run c) h

when_out : (o : Owner) (e : Expr) (b : Code) (u : State) (w : Goes) {y : State} {k : ℕ}
    → destination w ≡ some k → eval rotated e u ≡ some 1 → run b (enter u) ≡ some (y, w)
    → run (when o false (other e) b (sp 1 ⨾ end)) u ≡ some (leave y, w)
unfolding run runs step asks
when_out o e b u w {y} h q p =
    rw q (ap (λ (q : Outcome). bind q (λ r. next r.1 (leave r.0) (run (sp 1 ⨾ end)))) p
    ∙ away w (leave y) (run (sp 1 ⨾ end)) h)

module _ (ks : List ℕ) (a : ℕ) (o : Owner) (n : ℕ) (link : Bool) (ret target k : ℕ)
    (hr : ret < 4294967296) (ht : target < 4294967296) (hk : k < 4294967296)
    (addr : target ≡ clear_bit0 k) {z : State} {m : Machine} (s : Sound m) (g : Agrees z m)
    (c : Cond) (nv : is_nv c ≡ false) where
  -- { flags; if (e) { ..; transfer } } where the condition passes
  pub branch_leaves : passed c m ≡ true
      → Leaves
      (native_text ks a o
      (branch_if (flush_ticks n) (cond_expr c)
      (list_if link (set_word 14 ret) ++ (set_word 15 target ∷ [])) k)) z
      (cond link (set_reg 14 ret m) m, k)
  unfolding native_text run runs step
  branch_leaves pass =
      let u : State = flagged s g c nv in
      let y : State = branched link ret target (enter u) in
      let t = transfers ks a o 8 k y hk in
      record {
        end = leave (leave t.end);
        exit = t.exit;
        ends = λ d.
            after_ticks o 4 n (conditional o (cond_expr c) b d) z
            ∙ closed_out
            (sp 1 ⨾ line o flags
            (gap true 6 ⨾ when o false (other (cond_expr c)) b (sp 1 ⨾ end))) (nl ⨾ d) z
            t.exit t.leads
            (run_line o flags (gap true 6 ⨾ when o false (other (cond_expr c)) b (sp 1 ⨾ end))
            (enter z)
            ∙ ap (λ (q : Option State). bind q
            (run (gap true 6 ⨾ when o false (other (cond_expr c)) b (sp 1 ⨾ end))))
            (declared s g)
            ∙ when_out o (cond_expr c) b u t.exit t.leads (test s g c nv true pass)
            (run_line o ps (nl ⨾ transfer ks a o 8 k (sp 6 ⨾ end)) (enter u)
            ∙ ap (λ (q : Option State). bind q (run (nl ⨾ transfer ks a o 8 k (sp 6 ⨾ end))))
            (sets_do link ret target hr ht (enter u))
            ∙ t.ends (sp 6 ⨾ end)));
        leads = t.leads;
        pc = ap (λ (f : ℕ → ℕ). f 15) t.regs ∙ addr;
        same =
            with_scopes
            (moved_on {y = t.end}
            (branched_agrees (with_scopes g (enter u).scopes) link ret target) t.regs
            t.memory) _;
      }
    where
      ps : List Plain
      ps = list_if link (set_word 14 ret) ++ (set_word 15 target ∷ [])

      b : Code
      b = sp 1
          ⨾ line o (list_if link (set_word 14 ret) ++ (set_word 15 target ∷ []))
          (nl ⨾ transfer ks a o 8 k (sp 6 ⨾ end))

  -- and where it fails
  pub branch_continues : passed c m ≡ false
      → Continues
      (native_text ks a o
      (branch_if (flush_ticks n) (cond_expr c)
      (list_if link (set_word 14 ret) ++ (set_word 15 target ∷ [])) k)) z m
  unfolding native_text
  branch_continues fail =
      record {
        end = leave (flagged s g c nv);
        goes = λ d. after_ticks o 4 n (conditional o (cond_expr c) b d) z
            ∙ framed s g c nv o b
            (when_false o (cond_expr c) b (flagged s g c nv) (test s g c nv false fail)) d;
        same = with_scopes g _;
      }
    where
      b : Code
      b = sp 1
          ⨾ line o (list_if link (set_word 14 ret) ++ (set_word 15 target ∷ []))
          (nl ⨾ transfer ks a o 8 k (sp 6 ⨾ end))
