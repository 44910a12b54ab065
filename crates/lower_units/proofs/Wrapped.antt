-- The text of a native record that leads on: its ticks, and its lines in braces, under its
-- condition or not.
use Prim.Native.Nat.{ℕ, zero, suc}
use mathlib.Core.Path.{◌≡◌, refl, ap, ◌∙◌}
use mathlib.Core.Bool.{Bool, true, false, cond}
use mathlib.Core.List.{List}
use mathlib.Core.Option.{Option, some}
use Rattle.base_words.specs.Word.{one_if}
use Rattle.armv4t.specs.declared.Cond.{Cond}
use Rattle.c_tree.specs.Expr.{Expr}
use Rattle.c_tree.specs.Stmt.{other, Owner, gap, Code, end, ◌⨾◌, when, braces}
use Rattle.c_meaning.specs.State.{bind, State, enter, leave}
use Rattle.c_meaning.specs.Eval.{eval}
use Rattle.c_meaning.specs.Exec.{on, Outcome, next, exec, asks, step, runs}
use Rattle.c_meaning.specs.Perform.{execs, perform}
use Rattle.c_meaning.specs.Helpers.{rotated, run}
use Rattle.lower_forms.specs.Forms.{Lines, straight, straight_if}
use Rattle.lower_forms.specs.Operands.{cond_expr, flags}
use Rattle.lower_forms.specs.Block.{flush_ticks}
use Rattle.lower_units.specs.Block.{nl, sp, lines, line, conditional, native_text}
use Rattle.armv4t_manual.specs.Machine.{Machine, pack, Sound}
use Rattle.armv4t_manual.specs.Conditions.{passed}
use Rattle.armv4t_manual.specs.Unsaid.{is_nv}
use Rattle.lower_forms.specs.Agree.{Agrees}
use Rattle.lower_forms.specs.Means.{Makes, statements}
use Rattle.lower_units.specs.Text.{Continues}
use Rattle.lower_units.proofs.Lines.{run_line, run_lines}
use Rattle.lower_forms.proofs.Conditions.{flag_scope, test_ok, declared}
use Rattle.lower_forms.proofs.Steps.{within, with_scopes}

-- ticks touch nothing
ticks : (k : ℕ) (z : State) → perform (statements (flush_ticks k)) z ≡ some z
unfolding perform execs exec
ticks zero z = refl
ticks (suc k) z = refl

-- what stands after ticks
pub after_ticks : (o : Owner) (n k : ℕ) (c : Code) (z : State)
    → run (lines o n (flush_ticks k) c) z ≡ run c z
after_ticks o n k c z =
    run_lines o n (flush_ticks k) c z ∙ ap (λ (q : Option State). bind q (run c)) (ticks k z)

-- lines between braces
inside : (o : Owner) (n k : ℕ) (ls : Lines) (z : State) {y : State}
    → perform (statements ls) z ≡ some y → run (nl ⨾ lines o n ls (sp k ⨾ end)) z ≡ some (y, on)
unfolding run runs step
inside o n k ls z e =
    run_lines o n ls (sp k ⨾ end) z ∙ ap (λ (q : Option State). bind q (run (sp k ⨾ end))) e

-- after a closing brace
closed : (b c : Code) (z : State) {y : State} → run b (enter z) ≡ some (y, on)
    → run (braces b c) z ≡ run c (leave y)
unfolding run runs
closed b c z e = ap (λ (q : Outcome). bind q (λ r. next r.1 (leave r.0) (run c))) e

-- { lines }
pub straight_text : (ks : List ℕ) (a : ℕ) (o : Owner) (k : ℕ) (ls : Lines) {z : State} {m : Machine}
    → Makes (statements ls) (enter z) m
    → Continues (native_text ks a o (straight (flush_ticks k) ls)) z m
unfolding native_text run runs step
straight_text ks a o k ls {z} p =
    record {
      end = leave p.end;
      goes = λ c.
          after_ticks o 4 k (sp 4 ⨾ braces (nl ⨾ lines o 8 ls (sp 4 ⨾ end)) (nl ⨾ c)) z
          ∙ closed (nl ⨾ lines o 8 ls (sp 4 ⨾ end)) (nl ⨾ c) z
          (inside o 8 4 ls (enter z) p.ends);
      same = with_scopes p.same _;
    }

-- if (e) { lines }, where e holds, and where it does not
when_true : (o : Owner) (e : Expr) (ls : Lines) (u : State) {y : State} → eval rotated e u ≡ some 1
    → perform (statements ls) (enter u) ≡ some y
    → run (when o false (other e) (nl ⨾ lines o 8 ls (sp 6 ⨾ end)) (sp 1 ⨾ end)) u
    ≡ some (leave y, on)
unfolding run runs step asks
when_true o e ls u q p =
    rw q (ap (λ (q : Outcome). bind q (λ r. next r.1 (leave r.0) (run (sp 1 ⨾ end))))
    (inside o 8 6 ls (enter u) p))

pub when_false : (o : Owner) (e : Expr) (b : Code) (u : State) → eval rotated e u ≡ some 0
    → run (when o false (other e) b (sp 1 ⨾ end)) u ≡ some (u, on)
unfolding run runs step asks
when_false o e b u q = rw q

module _ {z : State} {m : Machine} (s : Sound m) (g : Agrees z m) (k : Cond) (nv : is_nv k ≡ false)
  where
    -- the state after the declarations of the flags
    abbrev pub flagged : State
    flagged =
        within (flag_scope m.n m.z m.c m.v
        (pack m.n m.z m.c m.v m.other_bits)) z.scopes z

    pub test : (b : Bool) → passed k m ≡ b → eval rotated (cond_expr k) flagged ≡ some (one_if b)
    test b q = test_ok k m.n m.z m.c m.v _ nv z.scopes z m
        ∙ ap (λ (b : Bool). some (one_if b)) q

    -- the condition's text, where the if leaves y
    pub framed : (o : Owner) (b : Code) {y : State}
        → run (when o false (other (cond_expr k)) b (sp 1 ⨾ end)) flagged ≡ some (y, on)
        → (c : Code) → run (conditional o (cond_expr k) b c) z ≡ run c (leave y)
    unfolding run runs step
    framed o b e c =
        closed (sp 1 ⨾ line o flags (gap true 6 ⨾ when o false (other (cond_expr k)) b (sp 1 ⨾ end)))
        (nl ⨾ c) z
        (run_line o flags (gap true 6 ⨾ when o false (other (cond_expr k)) b (sp 1 ⨾ end)) (enter z)
        ∙ ap (λ (q : Option State). bind q
        (run (gap true 6 ⨾ when o false (other (cond_expr k)) b (sp 1 ⨾ end)))) (declared s g)
        ∙ e)

    -- { flags; if (e) { lines } }
    pub straight_if_text : (ks : List ℕ) (a : ℕ) (o : Owner) (n : ℕ) (ls : Lines) {m1 : Machine}
        → (passed k m ≡ true → (u : State) → Agrees u m → Makes (statements ls) (enter u) m1)
        → Continues (native_text ks a o (straight_if (flush_ticks n) (cond_expr k) ls)) z
        (cond (passed k m) m1 m)
    unfolding native_text run runs step
    straight_if_text ks a o n ls {m1} p = go (passed k m) refl
      where
        b : Code
        b = nl ⨾ lines o 8 ls (sp 6 ⨾ end)

        go : (t : Bool) → passed k m ≡ t
            → Continues (native_text ks a o (straight_if (flush_ticks n) (cond_expr k) ls)) z
            (cond t m1 m)
        go true q =
            let r = p q flagged (with_scopes g _) in
            record {
              end = leave (leave r.end);
              goes = λ c. after_ticks o 4 n (conditional o (cond_expr k) b c) z
                  ∙ framed o b (when_true o (cond_expr k) ls flagged (test true q) r.ends) c;
              same = with_scopes r.same _;
            }
        go false q =
            record {
              end = leave flagged;
              goes = λ c. after_ticks o 4 n (conditional o (cond_expr k) b c) z
                  ∙ framed o b (when_false o (cond_expr k) b flagged (test false q)) c;
              same = with_scopes g _;
            }
