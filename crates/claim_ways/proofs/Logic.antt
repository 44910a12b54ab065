-- A logic over the tree: a state that each event moves, what each event asks of it, and what is
-- owed at a goto. What a text's check by this logic proves of each way through it.
use Prim.Native.Nat.{ℕ}
use mathlib.Core.Bool.{Bool, true, false}
use mathlib.Core.List.{List, [], ◌∷◌, Memᴰ}
use Rattle.c_tree.specs.Stmt.{common, Simple, gap, record_mark, plain, label, goto, ret, ret_if}
use Rattle.c_tree.specs.Stmt.{interp, ret_interp, call, switch, Code, end, ◌⨾◌, when, braces, ◌⧺◌}
use Rattle.c_tree.specs.Stmt.{Top}
use Rattle.claim_ways.specs.Ways.{LabelAt, here, later, in_when, past_when, in_braces}
use Rattle.claim_ways.specs.Ways.{past_braces, Event, reach, said, native_start, interpreted}
use Rattle.claim_ways.specs.Ways.{negated, taken, Way, stop, w_gap, w_record, w_plain}
use Rattle.claim_ways.specs.Ways.{w_label, w_goto, w_lost, w_ret, w_leave, w_stay, w_unsaid}
use Rattle.claim_ways.specs.Ways.{w_call, w_interp, w_ret_interp, w_entry, w_default, w_past}
use Rattle.claim_ways.specs.Ways.{w_when, w_unanswered, w_braces}

-- the states, how events move them, which events are allowed in a state, and what a state owes at a
-- goto to a key
pub record Logic : Type 1 where
  pub S : Type 0
  pub step : S → Event → S
  pub allow : S → Event → Type 0
  pub owed : ℕ → S → Type 0

abbrev pub Pick : Bool → Type 0 → Type 0 → Type 0
Pick true A B = A
Pick false A B = B

pick_map : (x : Bool) {A B A' B' : Type 0} → (A → A') → (B → B') → Pick x A B → Pick x A' B'
pick_map true f g h = f h
pick_map false f g h = g h

module _ (L : Logic) where
  open L use {S, step, allow, owed}

  -- the statement may be reached in the state s, and the text after it, where it goes on, is
  -- checked by K
  abbrev pub Ok1 : Simple → S → (S → Type 0) → Type 0
  Ok1 (gap l n) s K = K s
  Ok1 (record_mark b p n) s K = allow s (native_start b p n) × K (step s (native_start b p n))
  Ok1 (plain o t) s K = allow s (reach o) × K (step s (reach o))
  Ok1 (label k) s K = K s
  Ok1 (goto o k) s K = allow s (reach o) × owed k (step s (reach o))
  Ok1 (ret o t) s K = allow s (reach o)
  Ok1 (ret_if o t e) s K =
      allow s (reach o)
      × ((x : Bool) → allow (step s (reach o)) (said t x)
      × Pick x (allow (step (step s (reach o)) (said t x)) (reach o))
      (K (step (step s (reach o)) (said t x))))
  Ok1 (call k n) s K = ⊥
  Ok1 (interp b p) s K = allow s (interpreted b p) × K (step s (interpreted b p))
  Ok1 (ret_interp b p) s K = allow s (interpreted b p)
  Ok1 (switch ks) s K = ((k : ℕ) → Memᴰ k ks → owed k s) × allow s (reach common) × K s

  abbrev pub Ok : Code → S → (S → Type 0) → Type 0
  Ok end s K = K s
  Ok (x ⨾ c) s K = Ok1 x s (λ s'. Ok c s' K)
  Ok (when o n t b c) s K =
      allow s (reach o)
      × ((x : Bool) → allow (step s (reach o)) (said t x)
      × Pick (negated n x) (Ok b (step (step s (reach o)) (said t x)) (λ s'. Ok c s' K))
      (Ok c (step (step s (reach o)) (said t x)) K))
  Ok (braces b c) s K = Ok b s (λ s'. Ok c s' K)

  abbrev pub At : Simple → Code → (S → Type 0) → Type 0
  At (gap l n) c K = Unit {0}
  At (record_mark b p n) c K = Unit {0}
  At (plain o t) c K = Unit {0}
  At (label k) c K = (s : S) → owed k s → Ok c s K
  At (goto o k) c K = Unit {0}
  At (ret o t) c K = Unit {0}
  At (ret_if o t e) c K = Unit {0}
  At (call k n) c K = Unit {0}
  At (interp b p) c K = Unit {0}
  At (ret_interp b p) c K = Unit {0}
  At (switch ks) c K = Unit {0}

  -- the text after each label is checked from each state that is owed there
  abbrev pub Labels : Code → (S → Type 0) → Type 0
  Labels end K = Unit {0}
  Labels (x ⨾ c) K = At x c K × Labels c K
  Labels (when o n t b c) K = Labels b (λ s. Ok c s K) × Labels c K
  Labels (braces b c) K = Labels b (λ s. Ok c s K) × Labels c K

  abbrev pub Follow : List Event → S → Type 0
  Follow [] s = Unit {0}
  Follow (e ∷ es) s = allow s e × Follow es (step s e)

  mono1 : (x : Simple) (s : S) (K K' : S → Type 0) → ((s : S) → K s → K' s) → Ok1 x s K → Ok1 x s K'
  mono1 (gap l n) s K K' f h = f s h
  mono1 (record_mark b p n) s K K' f h = (h.0, f _ h.1)
  mono1 (plain o t) s K K' f h = (h.0, f _ h.1)
  mono1 (label k) s K K' f h = f s h
  mono1 (goto o k) s K K' f h = h
  mono1 (ret o t) s K K' f h = h
  mono1 (ret_if o t e) s K K' f h = (h.0, λ x. ((h.1 x).0, pick_map x (λ a. a) (f _) (h.1 x).1))
  mono1 (call k n) s K K' f h = h
  mono1 (interp b p) s K K' f h = (h.0, f _ h.1)
  mono1 (ret_interp b p) s K K' f h = h
  mono1 (switch ks) s K K' f h = (h.0, h.1, f s h.2)

  mono : (c : Code) (s : S) (K K' : S → Type 0) → ((s : S) → K s → K' s) → Ok c s K → Ok c s K'
  mono end s K K' f h = f s h
  mono (x ⨾ c) s K K' f h =
      mono1 x s (λ s'. Ok c s' K) (λ s'. Ok c s' K') (λ s' h'. mono c s' K K' f h') h
  mono (when o n t b c) s K K' f h = (
    h.0,
    λ x. (
      (h.1 x).0,
      pick_map (negated n x)
          (mono b _ (λ s'. Ok c s' K) (λ s'. Ok c s' K') (λ s' h'. mono c s' K K' f h'))
          (mono c _ K K' f) (h.1 x).1,
    ),
  )
  mono (braces b c) s K K' f h =
      mono b s (λ s'. Ok c s' K) (λ s'. Ok c s' K') (λ s' h'. mono c s' K K' f h') h

  pub append : (c d : Code) (s : S) (K : S → Type 0) → Ok c s (λ s'. Ok d s' K) → Ok (c ⧺ d) s K
  append end d s K h = h
  append (x ⨾ c) d s K h =
      mono1 x s (λ s'. Ok c s' (λ s''. Ok d s'' K)) (λ s'. Ok (c ⧺ d) s' K)
      (λ s' h'. append c d s' K h') h
  append (when o n t b c) d s K h = (
    h.0,
    λ x. (
      (h.1 x).0,
      pick_map (negated n x)
          (mono b _ (λ s'. Ok c s' (λ s''. Ok d s'' K)) (λ s'. Ok (c ⧺ d) s' K)
          (λ s' h'. append c d s' K h')) (append c d _ K) (h.1 x).1,
    ),
  )
  append (braces b c) d s K h =
      mono b s (λ s'. Ok c s' (λ s''. Ok d s'' K)) (λ s'. Ok (c ⧺ d) s' K)
      (λ s' h'. append c d s' K h') h

  placed : {k : ℕ} {c d : Code} → LabelAt k c d → (K : S → Type 0) → Labels c K → (s : S) → owed k s
      → Ok d s K
  placed here K l s o = l.0 s o
  placed (later p) K l s o = placed p K l.1 s o
  placed (in_when {c = c} {d = d} p) K l s o =
      append d c s K (placed p (λ s'. Ok c s' K) l.0 s o)
  placed (past_when p) K l s o = placed p K l.1 s o
  placed (in_braces {c = c} {d = d} p) K l s o =
      append d c s K (placed p (λ s'. Ok c s' K) l.0 s o)
  placed (past_braces p) K l s o = placed p K l.1 s o

  took : (x : Bool) (b c : Code) (s : S) (K : S → Type 0)
      → Pick x (Ok b s (λ s'. Ok c s' K)) (Ok c s K) → Ok (taken x b c) s K
  took true b c s K h = append b c s K h
  took false b c s K h = h

  abbrev pub Done : S → Type 0
  Done s = Unit {0}

  pub sound : {ts : List Top} {f c : Code} {xs : List Bool} {es : List Event} → Labels f Done
      → Way ts f c xs es → (s : S) → Ok c s Done → Follow es s
  sound l stop s h = tt
  sound l (w_gap w) s h = sound l w s h
  sound l (w_record w) s h = (h.0, sound l w _ h.1)
  sound l (w_plain w) s h = (h.0, sound l w _ h.1)
  sound l (w_label w) s h = sound l w s h
  sound l (w_goto p w) s h = (h.0, sound l w _ (placed p Done l _ h.1))
  sound l w_lost s h = (h.0, tt)
  sound l w_ret s h = (h, tt)
  sound l w_leave s h = (h.0, ((h.1 true).0, ((h.1 true).1, tt)))
  sound l (w_stay w) s h = (h.0, ((h.1 false).0, sound l w _ (h.1 false).1))
  sound l w_unsaid s h = (h.0, tt)
  sound l (w_call m w) s h = absurd h
  sound l (w_interp w) s h = (h.0, sound l w _ h.1)
  sound l w_ret_interp s h = (h, tt)
  sound l (w_entry m p w) s h = sound l w s (placed p Done l s (h.0 _ m))
  sound l w_default s h = (h.1, tt)
  sound l (w_past w) s h = sound l w s h.2
  sound l (w_when {b = b} {c = c} {n = n} {x = x} w) s h =
      (h.0, ((h.1 x).0, sound l w _ (took (negated n x) b c _ Done (h.1 x).1)))
  sound l w_unanswered s h = (h.0, tt)
  sound l (w_braces {b = b} {c = c} w) s h = sound l w s (append b c s Done h)
