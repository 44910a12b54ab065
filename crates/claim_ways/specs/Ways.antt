-- To be believed: the ways through the units, rule by rule as document 01 has them.
use Rattle.std.specs.Prelude.{ℕ, Bool, true, false, not}
use mathlib.Core.List.{List, [], ◌∷◌, Memᴰ}
use Rattle.c_tree.specs.Expr.{Expr}
use Rattle.c_tree.specs.Stmt.{Plain, Test, Owner, common, Simple, gap, record_mark, plain, label}
use Rattle.c_tree.specs.Stmt.{goto, ret, ret_if, interp, ret_interp, call, switch, Code, ◌⨾◌, when}
use Rattle.c_tree.specs.Stmt.{braces, ◌⧺◌, group, Top, function}

-- LabelAt k c d: in c there is a place with the label k, and d is the code from there on
pub data LabelAt (k : ℕ) : Code → Code → Type 0 where
  here : {c : Code} → LabelAt k (label k ⨾ c) c
  later : {s : Simple} {c d : Code} → LabelAt k c d → LabelAt k (s ⨾ c) d
  in_when : {o : Owner} {n : Bool} {t : Test} {b c d : Code} → LabelAt k b d
      → LabelAt k (when o n t b c) (d ⧺ c)
  past_when : {o : Owner} {n : Bool} {t : Test} {b c d : Code} → LabelAt k c d
      → LabelAt k (when o n t b c) d
  in_braces : {b c d : Code} → LabelAt k b d → LabelAt k (braces b c) (d ⧺ c)
  past_braces : {b c d : Code} → LabelAt k c d → LabelAt k (braces b c) d

-- what happens on a way
pub data Event : Type 0 where
  -- a statement with an owner, or a switch's default, is reached
  reach : Owner → Event
  -- a condition went by an answer: what its test said, before any `!`
  said : Test → Bool → Event
  -- the start of the text of native records is reached: block's key, index of the first record, how
  -- many
  native_start : ℕ → ℕ → ℕ → Event
  -- interp_one is called: block's key, index of the record that it carries out
  interpreted : ℕ → ℕ → Event

-- a `!` turns the answer for the condition
abbrev pub negated : Bool → Bool → Bool
negated false x = x
negated true x = not x

-- the code after a condition that holds or not
abbrev pub taken : Bool → Code → Code → Code
taken true b c = b ⧺ c
taken false b c = c

-- Way ts f c xs es: a way (document 01) through the units ts, in the function with the body f, from
-- the code c on, fed the answers xs, with the events es
pub data Way (ts : List Top) : Code → Code → List Bool → List Event → Type 0 where
  -- each beginning of a way is one
  stop : {f c : Code} {xs : List Bool} → Way ts f c xs []
  -- white space: the way goes on after it, without an event
  w_gap : {f c : Code} {xs : List Bool} {es : List Event} {l : Bool} {n : ℕ} → Way ts f c xs es
      → Way ts f (gap l n ⨾ c) xs es
  -- the mark at the start of the text of native records: that start is reached, and the way goes on
  w_record : {f c : Code} {xs : List Bool} {es : List Event} {k i n : ℕ} → Way ts f c xs es
      → Way ts f (record_mark k i n ⨾ c) xs (native_start k i n ∷ es)
  -- a plain statement is reached, and the way goes on after it
  w_plain : {f c : Code} {xs : List Bool} {es : List Event} {o : Owner} {p : Plain}
      → Way ts f c xs es → Way ts f (plain o p ⨾ c) xs (reach o ∷ es)
  -- a label: the way goes on after it, without an event
  w_label : {f c : Code} {xs : List Bool} {es : List Event} {k : ℕ} → Way ts f c xs es
      → Way ts f (label k ⨾ c) xs es
  -- a goto leads to any place in its function with that label; without one it ends the way (with
  -- one, ending there is a beginning of a way)
  w_goto : {f c d : Code} {xs : List Bool} {es : List Event} {o : Owner} {k : ℕ} → LabelAt k f d
      → Way ts f d xs es → Way ts f (goto o k ⨾ c) xs (reach o ∷ es)
  w_lost : {f c : Code} {xs : List Bool} {o : Owner} {k : ℕ}
      → Way ts f (goto o k ⨾ c) xs (reach o ∷ [])
  -- a return ends the way
  w_ret : {f c : Code} {xs : List Bool} {o : Owner} {e : Expr}
      → Way ts f (ret o e ⨾ c) xs (reach o ∷ [])
  -- a condition goes by the next answer; with none left it ends the way (with one left, ending
  -- there is a beginning of a way)
  w_leave : {f c : Code} {xs : List Bool} {o : Owner} {t : Test} {e : Expr}
      → Way ts f (ret_if o t e ⨾ c) (true ∷ xs) (reach o ∷ said t true ∷ reach o ∷ [])
  w_stay : {f c : Code} {xs : List Bool} {es : List Event} {o : Owner} {t : Test} {e : Expr}
      → Way ts f c xs es → Way ts f (ret_if o t e ⨾ c) (false ∷ xs) (reach o ∷ said t false ∷ es)
  w_unsaid : {f c : Code} {xs : List Bool} {o : Owner} {t : Test} {e : Expr}
      → Way ts f (ret_if o t e ⨾ c) xs (reach o ∷ [])
  w_when : {f b c : Code} {xs : List Bool} {es : List Event} {o : Owner} {n : Bool} {t : Test}
      {x : Bool} → Way ts f (taken (negated n x) b c) xs es
      → Way ts f (when o n t b c) (x ∷ xs) (reach o ∷ said t x ∷ es)
  w_unanswered : {f b c : Code} {xs : List Bool} {o : Owner} {n : Bool} {t : Test}
      → Way ts f (when o n t b c) xs (reach o ∷ [])
  w_braces : {f b c : Code} {xs : List Bool} {es : List Event} → Way ts f (b ⧺ c) xs es
      → Way ts f (braces b c) xs es
  -- a call of a group function enters it; its return is the block function's
  w_call : {f c g : Code} {xs : List Bool} {es : List Event} {k n : ℕ}
      → Memᴰ (function (group k) g) ts → Way ts g g xs es → Way ts f (call k n ⨾ c) xs es
  -- any other call returns
  w_interp : {f c : Code} {xs : List Bool} {es : List Event} {k i : ℕ} → Way ts f c xs es
      → Way ts f (interp k i ⨾ c) xs (interpreted k i ∷ es)
  w_ret_interp : {f c : Code} {xs : List Bool} {k i : ℕ}
      → Way ts f (ret_interp k i ⨾ c) xs (interpreted k i ∷ [])
  -- a switch takes any entry or none: its default, or the code after it
  w_entry : {f c d : Code} {xs : List Bool} {es : List Event} {ks : List ℕ} {k : ℕ} → Memᴰ k ks
      → LabelAt k f d → Way ts f d xs es → Way ts f (switch ks ⨾ c) xs es
  w_default : {f c : Code} {xs : List Bool} {ks : List ℕ}
      → Way ts f (switch ks ⨾ c) xs (reach common ∷ [])
  w_past : {f c : Code} {xs : List Bool} {es : List Event} {ks : List ℕ} → Way ts f c xs es
      → Way ts f (switch ks ⨾ c) xs es
