-- The text of groups and of the end of the last unit, as the pieces that functions write one after
-- another.
use mathlib.Core.Path.{◌≡◌, refl, sym, ap, ◌∙◌}
use Prim.Native.Nat.{ℕ}
use mathlib.Core.List.{List, [], ◌∷◌, map}
use lib.ListN.{length}
use Rattle.base_text.specs.Doc.{Doc, ◌▸◌, each}
use Rattle.base_text.specs.Flat.{flat}
use Rattle.base_text.proofs.Laws.{each_append}
use Rattle.c_tree.specs.Stmt.{label, end, ◌⨾◌, Top, extern, table, count}
use Rattle.c_tree.specs.Print.{cases_text, code_text, row_text, top_text, unit_text}
use Rattle.c_tree.proofs.Laws.{flat_append}
use Rattle.lower_forms.specs.Forms.{Body}
use Rattle.lower_units.specs.Block.{body_key, nl, block_code}
use Rattle.lower_units.specs.Units.{with_locals, emit_block, labelled, group_code, forwarders}
use Rattle.lower_units.specs.Units.{emit_group, last_unit_end}
use Rattle.emit_tables.specs.Heads.{block_open, function_end, group_open, switch_end, table_open}
use Rattle.emit_tables.specs.Heads.{table_end}

-- a lone block's function
pub block_text : (b : Body) (k : List ℕ)
    → flat (unit_text (emit_block b)) k
    ≡ flat (block_open (body_key b) ▸ code_text (block_code [] b) ▸ function_end) k
unfolding emit_block with_locals
block_text b k = refl

-- the functions of a group
pub group_text_lem : (b c : Body) (bs : List Body) (k : List ℕ)
    → flat (unit_text (emit_group (b ∷ c ∷ bs))) k
    ≡ flat (group_open (body_key b) ▸ cases_text 0 (map body_key (b ∷ c ∷ bs)) ▸ switch_end
    ▸ code_text (labelled (map body_key (b ∷ c ∷ bs)) (b ∷ c ∷ bs)) ▸ function_end
    ▸ unit_text (forwarders (body_key b) 0 (b ∷ c ∷ bs))) k
unfolding emit_group group_code with_locals
group_text_lem b c bs k = refl

-- a member, and those after it
pub member_text_lem : (ks : List ℕ) (b : Body) (bs : List Body) (k : List ℕ)
    → flat (code_text (labelled ks (b ∷ bs))) k
    ≡ flat (code_text (label (body_key b) ⨾ nl ⨾ end) ▸ code_text (block_code ks b)
    ▸ code_text (nl ⨾ end) ▸ code_text (labelled ks bs)) k
unfolding labelled
member_text_lem ks b bs k =
    ap (flat (code_text (label (body_key b) ⨾ nl ⨾ end)))
    (flat_append (block_code ks b) (nl ⨾ labelled ks bs) k)

-- the docs of a list that is mapped
pub each_map : {A B : Type 0} (f : B → Doc) (g : A → B) (xs : List A) (k : List ℕ)
    → flat (each f (map g xs)) k ≡ flat (each (λ (x : A). f (g x)) xs) k
each_map f g [] k = refl
each_map f g (x ∷ xs) k = ap (flat (f (g x))) (each_map f g xs k)

-- the end of the last unit
pub end_text : (bs : List Body) (k : List ℕ)
    → flat (unit_text (last_unit_end bs)) k
    ≡ flat (each (λ (b : Body). top_text (extern (body_key b))) bs ▸ table_open
    ▸ each (λ (b : Body). row_text (body_key b)) bs ▸ table_end ▸ top_text (count (length bs))) k
unfolding last_unit_end
end_text bs k =
    let last : List Top = table (map body_key bs) ∷ count (length bs) ∷ [] in
    sym (each_append top_text (map (λ (b : Body). extern (body_key b)) bs) last k)
    ∙ each_map top_text (λ (b : Body). extern (body_key b)) bs (flat (unit_text last) k)
    ∙ ap (flat (each (λ (b : Body). top_text (extern (body_key b))) bs ▸ table_open))
    (each_map row_text body_key bs (flat (table_end ▸ top_text (count (length bs))) k))
