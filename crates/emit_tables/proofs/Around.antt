-- What stands around the code of blocks, by their keys.
use mathlib.Core.Path.{◌≡◌, refl, sym, ap, ap₂, ◌∙◌}
use Prim.Native.Nat.{ℕ, zero, suc, ◌+◌, ◌≤◌, ◌<◌}
use native.Mathlib.Omega.{arith}
use native.Mathlib.Numerals.{add-one}
use mathlib.Core.Bool.{Bool}
use mathlib.Core.List.{List, [], ◌∷◌, ◌++◌, map}
use lib.ListN.{length, get_or, take, length-map}
use lib.Seq.{take-suc, take_all, length-take-le}
use Rattle.base_text.specs.Doc.{Doc, nothing, text, ◌▸◌, each}
use Rattle.base_text.specs.Flat.{flat}
use Rattle.base_text.specs.Wrote.{Wrote}
use Rattle.base_text.proofs.Laws.{seq, wrote_as}
use Rattle.file_blocks.specs.Parse.{Block, block_key}
use Rattle.plan_members.specs.Members.{member_keys}
use Rattle.c_tree.specs.Stmt.{call, end, ◌⨾◌, block, function, extern, count}
use Rattle.c_tree.specs.Print.{cases_text, row_text, top_text, unit_text}
use Rattle.lower_forms.specs.Forms.{Body}
use Rattle.lower_forms.specs.Block.{body_of}
use Rattle.lower_units.specs.Block.{body_key, sp}
use Rattle.lower_units.specs.Units.{forwarders, last_unit_end, default_body, bodies_of}
use Rattle.lower_units.specs.Measured.{hashed_if}
use Rattle.lower_units.proofs.Measured.{hashed_keys}
use Rattle.emit_tables.specs.Heads.{table_open, table_end}
use Rattle.emit_tables.proofs.Units.{end_text, each_map}
use Rattle.emit_tables.specs.Tables.{HaveKeys}

-- the bodies of blocks have their keys
pub body_keys : (multiplier : ℕ) (bs : List Block)
    → HaveKeys (map (body_of multiplier) bs) (map block_key bs)
unfolding body_of
body_keys multiplier [] = refl
body_keys multiplier (b ∷ bs) = ap (λ (ks : List ℕ). block_key b ∷ ks) (body_keys multiplier bs)

-- and so have those of some of them, by their numbers
pub member_keys_lem : (multiplier : ℕ) (bs : List Block) (is : List ℕ)
    → HaveKeys (bodies_of (map (body_of multiplier) bs) is) (member_keys bs is)
unfolding body_of bodies_of
member_keys_lem multiplier bs [] = refl
member_keys_lem multiplier bs (i ∷ is) =
    ap₂ (λ (k : ℕ) (ks : List ℕ). k ∷ ks) (at bs i) (member_keys_lem multiplier bs is)
  where
    at : (cs : List Block) (j : ℕ)
        → body_key (get_or (map (body_of multiplier) cs) j default_body) ≡ get_or (map block_key cs) j 0
    at [] j = refl
    at (c ∷ cs) zero = refl
    at (c ∷ cs) (suc j) = at cs j

-- the same of bodies that are written or measured
pub hashed_member_keys : (written : Bool) (multiplier : ℕ) (bs : List Block) (is : List ℕ)
    → HaveKeys (map (hashed_if written) (bodies_of (map (body_of multiplier) bs) is))
    (member_keys bs is)
hashed_member_keys written multiplier bs is =
    hashed_keys written (bodies_of (map (body_of multiplier) bs) is) ∙ member_keys_lem multiplier bs is

-- the end of the last unit
pub end_keys : (bs : List Body) (ks : List ℕ) (n : ℕ) (k : List ℕ) → HaveKeys bs ks → n ≡ length ks
    → flat (each (λ (j : ℕ). top_text (extern j)) ks ▸ table_open ▸ each row_text ks ▸ table_end
    ▸ top_text (count n)) k ≡ flat (unit_text (last_unit_end bs)) k
end_keys bs ks n k e h =
    let docs : List ℕ → ℕ
    → Doc = λ js m. each (λ (j : ℕ). top_text (extern j)) js ▸ table_open ▸ each row_text js
    ▸ table_end ▸ top_text (count m) in
    ap₂ (λ (js : List ℕ) (m : ℕ). flat (docs js m) k) (sym e)
    (h ∙ ap length (sym e) ∙ length-map bs body_key)
    ∙ each_map (λ (j : ℕ). top_text (extern j)) body_key bs
    (flat (table_open ▸ each row_text (map body_key bs) ▸ table_end ▸ top_text (count (length bs)))
    k)
    ∙ ap (flat (each (λ (b : Body). top_text (extern (body_key b))) bs ▸ table_open))
    (each_map row_text body_key bs (flat (table_end ▸ top_text (count (length bs))) k))
    ∙ sym (end_text bs k)

-- f of some numbers, each with its place counted from n
abbrev pub numbered : (ℕ → ℕ → Doc) → ℕ → List ℕ → Doc
numbered f n [] = nothing
numbered f n (k ∷ ks) = f n k ▸ numbered f (suc n) ks

numbered_append : (f : ℕ → ℕ → Doc) (n : ℕ) (ks : List ℕ) (j : ℕ) (k : List ℕ)
    → flat (numbered f n ks ▸ f (n + length ks) j) k ≡ flat (numbered f n (ks ++ (j ∷ []))) k
numbered_append f n [] j k =
    ap (λ (m : ℕ). flat (f m j) k) (let here : n + 0 ≡ n = omega arith in here)
numbered_append f n (i ∷ ks) j k =
    ap (flat (f n i))
    (ap (λ (m : ℕ). flat (numbered f (suc n) ks ▸ f m j) k)
    (let next : n + suc (length ks) ≡ suc n + length ks = omega arith in next)
    ∙ numbered_append f (suc n) ks j k)

-- a loop that writes f of each of ks with its place: a turn
pub numbered_more : (f : ℕ → ℕ → Doc) (ks : List ℕ) (i j : ℕ) {o o₁ o₂ : List ℕ} {at r₁ r₂ : ℕ}
    → i < length ks → j ≡ get_or ks i 0
    → Wrote o at (numbered f 0 (take i ks)) o₁ r₁ → Wrote o₁ r₁ (f i j) o₂ r₂
    → Wrote o at (numbered f 0 (take (i + 1) ks)) o₂ r₂
numbered_more f ks i j h e v w =
    let places : i ≡ 0 + length (take i ks) = omega (arith, length-take-le i ks (omega arith)) in
    wrote_as (seq v w)
    (ap₂ (λ (m l : ℕ). flat (numbered f 0 (take i ks) ▸ f m l) []) places e
    ∙ numbered_append f 0 (take i ks) (get_or ks i 0) []
    ∙ ap (λ (ls : List ℕ). flat (numbered f 0 ls) [])
    (sym (take-suc ks i 0 h) ∙ ap (λ (m : ℕ). take m ks) (sym (add-one i))))

-- the cases of a switch are so
cases_numbered : (n : ℕ) (ks : List ℕ) (k : List ℕ)
    → flat (numbered (λ (m j : ℕ). cases_text m (j ∷ [])) n ks) k ≡ flat (cases_text n ks) k
cases_numbered n [] k = refl
cases_numbered n (j ∷ ks) k =
    ap (λ (l : List ℕ). flat (cases_text n (j ∷ [])) l) (cases_numbered (suc n) ks k)

-- the cases of bodies, by their keys
pub cases_keys : (bs : List Body) (ks : List ℕ) (i : ℕ) (k : List ℕ) → HaveKeys bs ks
    → length ks ≤ i
    → flat (numbered (λ (m j : ℕ). cases_text m (j ∷ [])) 0 (take i ks)) k
    ≡ flat (cases_text 0 (map body_key bs)) k
cases_keys bs ks i k e all =
    ap (λ (js : List ℕ). flat (numbered (λ (m j : ℕ). cases_text m (j ∷ [])) 0 js) k)
    (take_all i ks all ∙ sym e) ∙ cases_numbered 0 (map body_key bs) k

-- the function that enters the group of the key g as its member n with a key
abbrev pub entry : ℕ → ℕ → ℕ → Doc
entry g n key = top_text (function (block key) (sp 1 ⨾ call g n ⨾ sp 1 ⨾ end))

-- and so are the functions that enter a group, but for the line end after them
entries_numbered : (g n : ℕ) (bs : List Body) (k : List ℕ)
    → flat (numbered (entry g) n (map body_key bs) ▸ text "\n") k
    ≡ flat (unit_text (forwarders g n bs)) k
unfolding forwarders
entries_numbered g n [] k = refl
entries_numbered g n (b ∷ bs) k =
    ap (flat (entry g n (body_key b))) (entries_numbered g (suc n) bs k)

-- the functions of bodies, by their keys and that of the first
pub forwarders_keys : (b : Body) (bs : List Body) (ks : List ℕ) (g i : ℕ) (k : List ℕ)
    → HaveKeys (b ∷ bs) ks → g ≡ get_or ks 0 0 → length ks ≤ i
    → flat (numbered (entry g) 0 (take i ks) ▸ text "\n") k
    ≡ flat (unit_text (forwarders (body_key b) 0 (b ∷ bs))) k
forwarders_keys b bs ks g i k e first all =
    let key : g ≡ body_key b = first ∙ ap (λ (js : List ℕ). get_or js 0 0) (sym e) in
    ap₂ (λ (h : ℕ) (js : List ℕ). flat (numbered (entry h) 0 js ▸ text "\n") k) key
    (take_all i ks all ∙ sym e)
    ∙ entries_numbered (body_key b) 0 (b ∷ bs) k
