-- The functions of a group, as the pieces that are written one after another.
use mathlib.Core.Path.{◌≡◌, refl, sym, ap, ap₂, ◌∙◌}
use Prim.Native.Nat.{ℕ, ◌≤◌, ◌<◌}
use native.Mathlib.Omega.{arith}
use mathlib.Core.Bool.{Bool}
use mathlib.Core.List.{List, [], ◌∷◌, map}
use lib.ListN.{length, get_or, length-map}
use Rattle.base_text.specs.Doc.{◌▸◌, each}
use Rattle.base_text.specs.Flat.{flat}
use Rattle.base_text.specs.Wrote.{Wrote}
use Rattle.base_text.proofs.Laws.{seq, wrote_as}
use Rattle.base_hash.specs.Fnv.{hash_multiplier}
use Rattle.file_blocks.specs.Parse.{blocks_of}
use Rattle.plan_groups.specs.Plan.{groups}
use Rattle.base_lists.proofs.Places.{map_at}
use Rattle.c_tree.specs.Print.{cases_text, code_text, unit_text}
use Rattle.lower_forms.specs.Forms.{Body}
use Rattle.lower_units.specs.Block.{body_key, block_code}
use Rattle.lower_units.specs.Measured.{hashed_if}
use Rattle.lower_units.specs.Units.{labelled, forwarders, emit_group, default_body, bodies_of}
use Rattle.emit_tables.specs.Heads.{block_open, function_end, group_open, switch_end}
use Rattle.emit_tables.proofs.Units.{block_text, group_text_lem, member_text_lem}
use Rattle.emit_tables.specs.Tables.{HaveKeys}
use Rattle.emit_tables.proofs.Around.{member_keys_lem}
use Rattle.emit_group.specs.Groups.{file_bodies, member_text, labelled_text, members_text}
use Rattle.emit_group.specs.Groups.{group_text}
use Rattle.file_keys.specs.Order.{block_keys}
use Rattle.plan_members.specs.Members.{group_keys}

-- the members of a group, one by one
pub members_each : (written : Bool) (f ks is : List ℕ) (k : List ℕ)
    → flat (each (labelled_text written f ks) is) k ≡ flat (members_text written f ks is) k
unfolding bodies_of labelled
members_each written f ks [] k = refl
members_each written f ks (i ∷ is) k =
    let b : Body = hashed_if written (get_or (file_bodies f) i default_body) in
    ap (flat (labelled_text written f ks i)) (members_each written f ks is k)
    ∙ sym (member_text_lem ks b (map (hashed_if written) (bodies_of (file_bodies f) is)) k)

-- as many bodies as members
pub members_count : (written : Bool) (f is : List ℕ)
    → length (map (hashed_if written) (bodies_of (file_bodies f) is)) ≡ length is
unfolding bodies_of
members_count written f is = length-map (bodies_of (file_bodies f) is) (hashed_if written)
    ∙ length-map is (λ (i : ℕ). get_or (file_bodies f) i default_body)

-- the key of a member, by its place
pub member_key : (limit : ℕ) (f : List ℕ) (g k : ℕ)
    → k < length (get_or (groups limit (blocks_of f)) g [])
    → get_or (group_keys limit f g) k 0
    ≡ body_key
    (get_or (file_bodies f) (get_or (get_or (groups limit (blocks_of f)) g []) k 0) default_body)
unfolding bodies_of
member_key limit f g k inside =
    let is : List ℕ = get_or (groups limit (blocks_of f)) g [] in
    map_at (λ (j : ℕ). get_or (block_keys f) j 0) is k 0 0 inside
    ∙ sym (ap (λ (ks : List ℕ). get_or ks 0 0)
    (member_keys_lem hash_multiplier (blocks_of f) (get_or is k 0 ∷ [])))

-- a lone block: ks is its key
pub lone_wrote : (written : Bool) (f is ks : List ℕ) (key : ℕ) {o o₁ o₂ o₃ : List ℕ}
    {at r₁ r₂ r₃ : ℕ} → length is ≡ 1
    → HaveKeys (map (hashed_if written) (bodies_of (file_bodies f) is)) ks → key ≡ get_or ks 0 0
    → Wrote o at (block_open key) o₁ r₁
    → Wrote o₁ r₁ (member_text written f [] (get_or is 0 0)) o₂ r₂ → Wrote o₂ r₂ function_end o₃ r₃
    → Wrote o at (group_text written f is) o₃ r₃
unfolding bodies_of emit_group
lone_wrote written f [] ks key one keys first head code close = absurd (omega arith)
lone_wrote written f (i ∷ []) ks key one keys first head code close =
    let b : Body = hashed_if written (get_or (file_bodies f) i default_body) in
    let same : key ≡ body_key b = first ∙ ap (λ (js : List ℕ). get_or js 0 0) (sym keys) in
    wrote_as (seq head (seq code close))
    (ap (λ (k : ℕ). flat (block_open k ▸ code_text (block_code [] b) ▸ function_end) []) same
    ∙ sym (block_text b []))
lone_wrote written f (i ∷ j ∷ is) ks key one keys first head code close = absurd (omega arith)

-- a group of several: ms are its members
pub several_wrote : (ms : List Body) (ks : List ℕ) (key : ℕ) {o o₁ o₂ o₃ o₄ o₅ o₆ : List ℕ}
    {at r₁ r₂ r₃ r₄ r₅ r₆ : ℕ} → 2 ≤ length ms → HaveKeys ms ks
    → key ≡ get_or ks 0 0 → Wrote o at (group_open key) o₁ r₁
    → Wrote o₁ r₁ (cases_text 0 (map body_key ms)) o₂ r₂ → Wrote o₂ r₂ switch_end o₃ r₃
    → Wrote o₃ r₃ (code_text (labelled ks ms)) o₄ r₄ → Wrote o₄ r₄ function_end o₅ r₅
    → ((b : Body) (bs : List Body) → HaveKeys (b ∷ bs) ks
    → Wrote o₅ r₅ (unit_text (forwarders (body_key b) 0 (b ∷ bs))) o₆ r₆)
    → Wrote o at (unit_text (emit_group ms)) o₆ r₆
several_wrote [] ks key some keys first head cases switch code close forward = absurd (omega arith)
several_wrote (b ∷ []) ks key some keys first head cases switch code close forward =
    absurd (omega arith)
several_wrote (b ∷ c ∷ bs) ks key some keys first head cases switch code close forward =
    let ms : List Body = b ∷ c ∷ bs in
    let same : key ≡ body_key b = first ∙ ap (λ (js : List ℕ). get_or js 0 0) (sym keys) in
    wrote_as (seq head (seq cases (seq switch (seq code (seq close (forward b (c ∷ bs) keys))))))
    (ap₂ (λ (h : ℕ) (js : List ℕ). flat
    (group_open h ▸ cases_text 0 (map body_key ms) ▸ switch_end ▸ code_text (labelled js ms)
    ▸ function_end ▸ unit_text (forwarders (body_key b) 0 ms)) []) same (sym keys)
    ∙ sym (group_text_lem b c bs []))
