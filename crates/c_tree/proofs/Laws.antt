-- Code after code, and tops after tops: the text is the one and then the other.
use mathlib.Core.Path.{◌≡◌, refl, sym, ap, ◌∙◌}
use Prim.Native.Nat.{ℕ, ◌+◌}
use mathlib.Core.Bool.{Bool, ◌&&◌, and_assoc}
use mathlib.Core.List.{List, [], ◌++◌}
use lib.ListN.{length, length-append}
use Rattle.base_text.specs.Doc.{◌▸◌, print}
use Rattle.base_text.specs.Flat.{flat}
use Rattle.base_text.proofs.Laws.{same_bytes, each_append}
use Rattle.c_tree.specs.Stmt.{Code, end, ◌⨾◌, when, braces, ◌⧺◌, Top}
use Rattle.c_tree.specs.Print.{simple_text, code_text, unit_text}
use Rattle.c_tree.specs.Binds.{test_binds, simple_binds, code_binds}

-- code after code
pub append_end : (c : Code) → c ⧺ end ≡ c
append_end end = refl
append_end (s ⨾ c) = ap (λ (x : Code). s ⨾ x) (append_end c)
append_end (when o n t b c) = ap (when o n t b) (append_end c)
append_end (braces b c) = ap (braces b) (append_end c)

pub append_assoc : (c d e : Code) → (c ⧺ d) ⧺ e ≡ c ⧺ (d ⧺ e)
append_assoc end d e = refl
append_assoc (s ⨾ c) d e = ap (λ (x : Code). s ⨾ x) (append_assoc c d e)
append_assoc (when o n t b c) d e = ap (when o n t b) (append_assoc c d e)
append_assoc (braces b c) d e = ap (braces b) (append_assoc c d e)

-- its text in front of any other, which is what `Wrote-as` asks
pub flat_append : (c d : Code) (k : List ℕ)
    → flat (code_text (c ⧺ d)) k ≡ flat (code_text c ▸ code_text d) k
flat_append end d k = refl
flat_append (s ⨾ c) d k = ap (flat (simple_text s)) (flat_append c d k)
flat_append (when o n t b c) d k =
    ap (λ (l : List ℕ). flat (code_text (when o n t b end)) l) (flat_append c d k)
flat_append (braces b c) d k =
    ap (λ (l : List ℕ). flat (code_text (braces b end)) l) (flat_append c d k)

-- code after code binds if both do
pub binds_append : (l : Bool) (c d : Code) → code_binds l (c ⧺ d) ≡ (code_binds l c && code_binds l d)
unfolding code_binds
binds_append l end d = refl
binds_append l (s ⨾ c) d =
    ap (λ (x : Bool). simple_binds l s && x) (binds_append l c d)
    ∙ sym (and_assoc (simple_binds l s) (code_binds l c) (code_binds l d))
binds_append l (when o n t b c) d =
    let p : Bool = test_binds l n t && code_binds l b in
    ap (λ (x : Bool). p && x) (binds_append l c d)
    ∙ sym (and_assoc p (code_binds l c) (code_binds l d))
binds_append l (braces b c) d =
    ap (λ (x : Bool). code_binds l b && x) (binds_append l c d)
    ∙ sym (and_assoc (code_binds l b) (code_binds l c) (code_binds l d))

-- tops after tops
pub print_unit : (ts us : List Top)
    → print (unit_text (ts ++ us)) ≡ print (unit_text ts) ++ print (unit_text us)
unfolding print
print_unit ts us =
    sym (same_bytes (unit_text ts ▸ unit_text us) (unit_text (ts ++ us)) (each_append _ ts us []))

pub length_unit : (ts us : List Top)
    → length (print (unit_text (ts ++ us)))
    ≡ length (print (unit_text ts)) + length (print (unit_text us))
length_unit ts us =
    ap length (print_unit ts us) ∙ length-append (print (unit_text ts)) (print (unit_text us))
