-- The statements that a compiler sees are the tree's: in the text of code that binds, the bytes
-- `;`, `{` and `}` are those that the tree says, in its order.
use mathlib.Core.Path.{◌≡◌, refl, sym, ap}
use Prim.Native.Nat.{ℕ, zero, suc, ◌%◌}
use Prim.Native.String.{String}
use mathlib.Core.Bool.{Bool, true, false, not, cond, ◌&&◌, ◌||◌}
use mathlib.Core.List.{List, [], ◌∷◌, ◌++◌}
use lib.Dec.{eqb}
use Rattle.armv4t.specs.Bit0.{clear_bit0}
use Rattle.base_text.specs.Doc.{Doc, nothing, text, ◌▸◌, chars, print, spaces}
use Rattle.c_tree.specs.Stmt.{Simple, gap, record_mark, plain, label, goto, ret, ret_if, interp}
use Rattle.c_tree.specs.Stmt.{ret_interp, call, switch, Code, end, ◌⨾◌, when, braces}
use Rattle.c_tree.specs.Print.{key_text, cases_text, simple_text, code_text}
use Rattle.c_tree.specs.Binds.{binds, test_binds, simple_binds, code_binds}
use Rattle.c_tree.proofs.Clean.{stop, clean_byte, clean, Clean, ok, ◌&◌, dec_clean}
use Rattle.c_tree.proofs.Clean.{hex8_clean, expr_clean, test_clean, plain_clean}
use Rattle.base_lists.proofs.Bools.{left_true as left, right_true as right}

-- the bytes `;`, `{` and `}` of a text
abbrev pub stops : List ℕ → List ℕ
stops [] = []
stops (b ∷ bs) = cond (stop b) (b ∷ stops bs) (stops bs)

-- the same of a tree: a `;` for each statement and each case of a switch, and the braces
abbrev pub case_skeleton : List ℕ → List ℕ
case_skeleton [] = []
case_skeleton (k ∷ ks) = 59 ∷ case_skeleton ks

abbrev pub simple_skeleton : Simple → List ℕ
simple_skeleton (gap l n) = []
simple_skeleton (record_mark k i n) = []
simple_skeleton (plain o p) = 59 ∷ []
simple_skeleton (label k) = 59 ∷ []
simple_skeleton (goto o k) = 59 ∷ []
simple_skeleton (ret o e) = 59 ∷ []
simple_skeleton (ret_if o t e) = 59 ∷ []
simple_skeleton (interp k i) = 59 ∷ []
simple_skeleton (ret_interp k i) = 59 ∷ []
simple_skeleton (call k n) = 59 ∷ []
simple_skeleton (switch ks) = 123 ∷ (case_skeleton ks ++ (59 ∷ 125 ∷ []))

abbrev pub skeleton : Code → List ℕ
skeleton end = []
skeleton (s ⨾ c) = simple_skeleton s ++ skeleton c
skeleton (when o n t b c) = 123 ∷ (skeleton b ++ (125 ∷ skeleton c))
skeleton (braces b c) = 123 ∷ (skeleton b ++ (125 ∷ skeleton c))

-- a doc with these stops
record Has (d : Doc) (s : List ℕ) : Type 0 where
  is : stops (print d) ≡ s

cond_append : (b : Bool) (x : ℕ) (us vs ys : List ℕ) → us ≡ vs ++ ys
    → cond b (x ∷ us) us ≡ cond b (x ∷ vs) vs ++ ys
cond_append true x us vs ys e = ap (λ (zs : List ℕ). x ∷ zs) e
cond_append false x us vs ys e = e

stops_append : (xs ys : List ℕ) → stops (xs ++ ys) ≡ stops xs ++ stops ys
stops_append [] ys = refl
stops_append (x ∷ xs) ys =
    cond_append (stop x) x (stops (xs ++ ys)) (stops xs) (stops ys) (stops_append xs ys)

infixr 60 ◌⊕◌
◌⊕◌ : {a b : Doc} {s t : List ℕ} → Has a s → Has b t → Has (a ▸ b) (s ++ t)
unfolding print
◌⊕◌ {a} {b} {s} {t} p q = record { is = rw (stops_append (print a) (print b), p.is, q.is) }

-- a text: by computation
lit : {w : String} {s : List ℕ} → stops (chars w) ≡ s → Has (text w) s
unfolding print
lit e = record { is = e }

none : Has nothing []
unfolding print
none = record { is = refl }

-- a clean doc has none
not_stop : (a b : Bool) → not (a || b) ≡ true → a ≡ false
not_stop false b h = refl
not_stop true b h = sym h

no_stops : (xs : List ℕ) → clean xs ≡ true → stops xs ≡ []
no_stops [] h = refl
no_stops (x ∷ xs) h =
    rw (not_stop (stop x) (eqb x 10) (left (clean_byte x) (clean xs) h))
    (no_stops xs (right (clean_byte x) (clean xs) h))

free : {d : Doc} → Clean d → Has d []
free {d} c = record { is = no_stops (print d) c.bytes }

key_free : (k : ℕ) → Has (key_text k) []
key_free k = free (hex8_clean (clear_bit0 k) & go (eqb (k % 2) 1))
  where
    go : (b : Bool) → Clean (text (cond b "_t" "_a"))
    go true = ok refl
    go false = ok refl

spaces_free : (n : ℕ) → Has (spaces n) []
spaces_free zero = none
spaces_free (suc n) = lit refl ⊕ spaces_free n

line_free : (l : Bool) → Has (text (cond l "\n" "")) []
line_free true = lit refl
line_free false = lit refl

not_free : (n : Bool) → Has (text (cond n "!" "")) []
not_free true = lit refl
not_free false = lit refl

cases_stops : (n : ℕ) (ks : List ℕ) → Has (cases_text n ks) (case_skeleton ks)
cases_stops n [] = none
cases_stops n (k ∷ ks) =
    lit refl ⊕ free (dec_clean n) ⊕ lit refl ⊕ key_free k ⊕ lit refl ⊕ cases_stops (suc n) ks

simple_stops : (s : Simple) → simple_binds false s ≡ true → Has (simple_text s) (simple_skeleton s)
unfolding simple_binds
simple_stops (gap l n) h = line_free l ⊕ spaces_free n
simple_stops (record_mark k i n) h = none
simple_stops (plain o p) h = free (plain_clean p h) ⊕ lit refl
simple_stops (label k) h = lit refl ⊕ key_free k ⊕ lit refl
simple_stops (goto o k) h = lit refl ⊕ key_free k ⊕ lit refl
simple_stops (ret o e) h = lit refl ⊕ free (expr_clean e h) ⊕ lit refl
simple_stops (ret_if o t e) h =
    lit refl
    ⊕ free (test_clean false t (left (test_binds false false t) (binds false e) h))
    ⊕ lit refl
    ⊕ free (expr_clean e (right (test_binds false false t) (binds false e) h))
    ⊕ lit refl
simple_stops (interp k i) h = lit refl
simple_stops (ret_interp k i) h = lit refl
simple_stops (call k n) h =
    lit refl ⊕ free (hex8_clean k) ⊕ lit refl ⊕ free (dec_clean n) ⊕ lit refl
simple_stops (switch ks) h = lit refl ⊕ cases_stops 0 ks ⊕ lit refl

code_stops : (c : Code) → code_binds false c ≡ true → Has (code_text c) (skeleton c)
unfolding code_binds
code_stops end h = none
code_stops (s ⨾ c) h =
    simple_stops s (left (simple_binds false s) (code_binds false c) h) ⊕ code_stops c
    (right (simple_binds false s) (code_binds false c) h)
code_stops (when o n t b c) h =
    let p : (test_binds false n t && code_binds false b) ≡ true =
    left (test_binds false n t && code_binds false b) (code_binds false c) h in
    lit refl
    ⊕ not_free n
    ⊕ free (test_clean n t (left (test_binds false n t) (code_binds false b) p))
    ⊕ lit refl
    ⊕ code_stops b (right (test_binds false n t) (code_binds false b) p)
    ⊕ lit refl
    ⊕ code_stops c (right (test_binds false n t && code_binds false b) (code_binds false c) h)
code_stops (braces b c) h =
    lit refl
    ⊕ code_stops b (left (code_binds false b) (code_binds false c) h)
    ⊕ lit refl
    ⊕ code_stops c (right (code_binds false b) (code_binds false c) h)

-- no statement is hidden, and none is lost
pub statements : (c : Code) → code_binds false c ≡ true → stops (print (code_text c)) ≡ skeleton c
statements c h = (code_stops c h).is
