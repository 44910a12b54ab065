-- Every unit's tree binds as C's grammar asks: so it is what a compiler reads from the text.
use Prim.Native.Nat.{ℕ, zero, suc, ◌+◌}
use mathlib.Core.Bool.{Bool, true, false, cond, ◌&&◌}
use mathlib.Core.List.Memᴰ
use mathlib.Core.List.{List, [], ◌∷◌, ◌++◌, map, Memᴰ}
use mathlib.Core.Option.{Option, none, some}
use mathlib.Core.Path.{◌≡◌, refl, ◌∙◌}
use mathlib.Core.Logic.{◌⊎◌, inl, inr}
use lib.Dec.{leb}
use lib.ListN.{length, get_or}
use Rattle.armv4t.specs.Bit0.{clear_bit0}
use Rattle.file_blocks.specs.Parse.{Block}
use Rattle.c_tree.specs.Expr.{Expr}
use Rattle.c_tree.specs.Stmt.{Plain, Owner, common, Code, end, ◌⨾◌, plain, Top, extern, table}
use Rattle.c_tree.specs.Stmt.{count}
use Rattle.c_tree.specs.Binds.{level, binds, declarators_bind, plain_binds, test_binds, simple_binds}
use Rattle.c_tree.specs.Binds.{code_binds, top_binds, tree_binds}
use Rattle.c_tree.proofs.Laws.{binds_append}
use Rattle.lower_forms.specs.Forms.{Lines, Native, straight, straight_if, branch_if, jump, pair, bx}
use Rattle.lower_forms.specs.Forms.{pop, Form, shell, records_in, Body}
use Rattle.lower_forms.specs.Block.{body_of}
use Rattle.lower_forms.proofs.Binds.{plains_bind, lines_bind, native_binds, form_binds, forms_bind}
use Rattle.lower_forms.proofs.Binds.{closing_lines_bind}
use Rattle.base_lists.proofs.Each.{Each}
use Rattle.lower_units.specs.Block.{body_key, nl, sp, leave, line, lines, goto_code, transfer}
use Rattle.lower_units.specs.Block.{closing, conditional, native_text, code_from, under_guard}
use Rattle.lower_units.specs.Block.{block_code, body_end, closing_lines}
use Rattle.file_blocks.specs.Address.{outside_rom_bios}
use Rattle.base_lists.specs.Lists.{among}
use Rattle.lower_units.specs.Units.{with_locals, emit_block, labelled, group_code, forwarders}
use Rattle.lower_units.specs.Units.{emit_group, unit_head, last_unit_end, TranslationUnit, text_of}
use Rattle.lower_units.specs.Units.{cut, default_body, bodies_of, emit_c_chunked}
use Rattle.base_lists.proofs.Bools.{left_true as left, right_true, both_true as both}

-- either of two
pick : (b : Bool) (c d : Code) → code_binds false c ≡ true → code_binds false d ≡ true
    → code_binds false (cond b c d) ≡ true
pick true c d h k = h
pick false c d h k = k

line_binds : (o : Owner) (ps : List Plain) (c : Code) → plains_bind ps ≡ true
    → code_binds false c ≡ true → code_binds false (line o ps c) ≡ true
unfolding code_binds simple_binds
line_binds o [] c h k = k
line_binds o (p ∷ []) c h k =
    both (plain_binds false p) (code_binds false c) (left (plain_binds false p) true h) k
line_binds o (p ∷ q ∷ ps) c h k =
    both (plain_binds false p) (code_binds false (line o (q ∷ ps) c))
    (left (plain_binds false p) (plains_bind (q ∷ ps)) h)
    (line_binds o (q ∷ ps) c (right_true (plain_binds false p) (plains_bind (q ∷ ps)) h) k)

lines_bind_lem : (o : Owner) (n : ℕ) (ls : Lines) (c : Code) → lines_bind ls ≡ true
    → code_binds false c ≡ true → code_binds false (lines o n ls c) ≡ true
unfolding code_binds simple_binds
lines_bind_lem o n [] c h k = k
lines_bind_lem o n (l ∷ ls) c h k =
    line_binds o l _ (left (plains_bind l) (lines_bind ls) h)
    (lines_bind_lem o n ls c (right_true (plains_bind l) (lines_bind ls) h) k)

goto_binds : (b : Bool) (o : Owner) (n k : ℕ) (c : Code) → code_binds false c ≡ true
    → code_binds false (goto_code b o n k c) ≡ true
unfolding code_binds simple_binds test_binds binds goto_code
goto_binds true o n k c h = h
goto_binds false o n k c h = h

transfer_binds : (ks : List ℕ) (a : ℕ) (o : Owner) (n k : ℕ) (c : Code) → code_binds false c ≡ true
    → code_binds false (transfer ks a o n k c) ≡ true
unfolding code_binds simple_binds binds transfer
transfer_binds ks a o n k c h = pick (among k ks) _ _ (goto_binds (leb (clear_bit0 k) a) o n k c h) h

conditional_binds : (o : Owner) (e : Expr) (b c : Code) → binds false e ≡ true
    → code_binds false b ≡ true → code_binds false c ≡ true
    → code_binds false (conditional o e b c) ≡ true
unfolding code_binds simple_binds plain_binds declarators_bind test_binds binds level
conditional_binds o e b c h k l = rw (h, k, l)

native_binds_lem : (ks : List ℕ) (a : ℕ) (o : Owner) (r : Native) (c : Code) → native_binds r ≡ true
    → code_binds false c ≡ true → code_binds false (native_text ks a o r c) ≡ true
unfolding code_binds simple_binds plain_binds declarators_bind test_binds binds level native_text
native_binds_lem ks a o (straight t l) c h k =
    lines_bind_lem o 4 t _ (left (lines_bind t) (lines_bind l) h)
    (both _ (code_binds false c)
    (lines_bind_lem o 8 l _ (right_true (lines_bind t) (lines_bind l) h) refl) k)
native_binds_lem ks a o (straight_if t e l) c h k =
    let te = left (lines_bind t && binds false e) (lines_bind l) h in
    lines_bind_lem o 4 t _ (left (lines_bind t) (binds false e) te)
    (conditional_binds o e (nl ⨾ lines o 8 l (sp 6 ⨾ end)) c
    (right_true (lines_bind t) (binds false e) te)
    (lines_bind_lem o 8 l (sp 6 ⨾ end) (right_true (lines_bind t && binds false e) (lines_bind l) h)
    refl) k)
native_binds_lem ks a o (branch_if t e s j) c h k =
    let te = left (lines_bind t && binds false e) (plains_bind s) h in
    lines_bind_lem o 4 t _ (left (lines_bind t) (binds false e) te)
    (conditional_binds o e (sp 1 ⨾ line o s (nl ⨾ transfer ks a o 8 j (sp 6 ⨾ end))) c
    (right_true (lines_bind t) (binds false e) te)
    (line_binds o s (nl ⨾ transfer ks a o 8 j (sp 6 ⨾ end))
    (right_true (lines_bind t && binds false e) (plains_bind s) h)
    (transfer_binds ks a o 8 j (sp 6 ⨾ end) refl)) k)
native_binds_lem ks a o (jump t j) c h k = lines_bind_lem o 4 t _ h (transfer_binds ks a o 4 j end refl)
native_binds_lem ks a o (pair t j) c h k = lines_bind_lem o 4 t _ h (transfer_binds ks a o 4 j end refl)
native_binds_lem ks a o (bx t e) c h k =
    lines_bind_lem o 4 t _ (left (lines_bind t) (binds false e) h)
    (rw (right_true (lines_bind t) (binds false e) h))
native_binds_lem ks a o (pop t s l u e) c h k =
    let w =
    left (lines_bind t && plain_binds false s && lines_bind l && plain_binds false u)
    (binds false e) h in
    let v = left (lines_bind t && plain_binds false s && lines_bind l) (plain_binds false u) w in
    let x = left (lines_bind t && plain_binds false s) (lines_bind l) v in
    let last : code_binds false (lines o 6 l (sp 6 ⨾ plain o u ⨾ leave o e))
    ≡ true =
    lines_bind_lem o 6 l (sp 6 ⨾ plain o u ⨾ leave o e)
    (right_true (lines_bind t && plain_binds false s) (lines_bind l) v)
    (rw (
      right_true (lines_bind t && plain_binds false s && lines_bind l) (plain_binds false u) w,
      right_true (lines_bind t && plain_binds false s && lines_bind l && plain_binds false u)
          (binds false e) h,
    )) in
    lines_bind_lem o 4 t _ (left (lines_bind t) (plain_binds false s) x)
    (rw (right_true (lines_bind t) (plain_binds false s) x, last))

-- forms that bind
abbrev pub AllBind : List Form → Type 0
AllBind rs = Each (λ (r : Form). form_binds r ≡ true) rs

-- a block whose forms bind
module _ (ks : List ℕ) (b : Body) where
  closing_binds : code_binds false (closing ks b) ≡ true
  unfolding code_binds closing
  closing_binds =
      lines_bind_lem common 4 (closing_lines b) _ (closing_lines_bind b.pending (body_end b))
      (transfer_binds ks b.addr common 4 _ end refl)

  code_from_binds : (i : ℕ) (rs : List Form) → AllBind rs
      → code_binds false (code_from ks b i rs) ≡ true
  unfolding code_binds simple_binds test_binds binds level code_from
  code_from_binds i [] h = closing_binds
  code_from_binds i (Form.native r ∷ rs) h =
      native_binds_lem ks b.addr _ r _ h.0 (code_from_binds (i + records_in r) rs h.1)
  code_from_binds i (shell true t k ∷ []) h = lines_bind_lem common 4 t _ h.0 closing_binds
  code_from_binds i (shell false t k ∷ []) h = lines_bind_lem common 4 t _ h.0 refl
  code_from_binds i (shell u t k ∷ r ∷ rs) h =
      lines_bind_lem common 4 t _ h.0 (code_from_binds (i + 1) (r ∷ rs) h.1)

  guard_binds : (h : Option ℕ) → AllBind b.forms → code_binds false (under_guard ks b h) ≡ true
  unfolding code_binds simple_binds plain_binds test_binds binds under_guard
  guard_binds none h = refl
  guard_binds (some x) h = code_from_binds 0 b.forms h

  pub block_binds : AllBind b.forms → code_binds false (block_code ks b) ≡ true
  unfolding block_code
  block_binds h =
      pick (outside_rom_bios b.addr) _ _ (guard_binds b.hash h) (code_from_binds 0 b.forms h)

-- blocks that bind
abbrev pub Binding : Body → Type 0
Binding b = AllBind b.forms

abbrev pub AllBinding : List Body → Type 0
AllBinding bs = Each Binding bs

labelled_binds : (ks : List ℕ) (bs : List Body) → AllBinding bs
    → code_binds false (labelled ks bs) ≡ true
unfolding code_binds simple_binds labelled
labelled_binds ks [] h = refl
labelled_binds ks (b ∷ bs) h =
    binds_append false (block_code ks b) _
    ∙ both (code_binds false (block_code ks b)) _ (block_binds ks b h.0)
    (labelled_binds ks bs h.1)

forwarders_bind : (k n : ℕ) (bs : List Body) (t : Top) → Memᴰ t (forwarders k n bs)
    → top_binds t ≡ true
unfolding code_binds simple_binds forwarders
forwarders_bind k n [] t (Memᴰ.tail m) = elim m [ ]
forwarders_bind k n [] t (Memᴰ.head e) = rw e
forwarders_bind k n (b ∷ bs) t (Memᴰ.head e) = rw e
forwarders_bind k n (b ∷ bs) t (Memᴰ.tail m) = forwarders_bind k (suc n) bs t m

-- all code of a group
pub group_binds : (bs : List Body) → AllBinding bs → (t : Top) → Memᴰ t (emit_group bs)
    → top_binds t ≡ true
unfolding code_binds simple_binds plain_binds emit_group emit_block with_locals group_code
group_binds [] h t m = elim m [ ]
group_binds (b ∷ []) h t (Memᴰ.tail (Memᴰ.tail m)) = elim m [ ]
group_binds (b ∷ []) h t (Memᴰ.head e) = rw e (block_binds [] b h.0)
group_binds (b ∷ []) h t (Memᴰ.tail (Memᴰ.head e)) = rw e
group_binds (b ∷ c ∷ bs) h t (Memᴰ.head e) =
    rw e (labelled_binds (map body_key (b ∷ c ∷ bs)) (b ∷ c ∷ bs) h)
group_binds (b ∷ c ∷ bs) h t (Memᴰ.tail (Memᴰ.head e)) = rw e
group_binds (b ∷ c ∷ bs) h t (Memᴰ.tail (Memᴰ.tail m)) =
    forwarders_bind (body_key b) 0 (b ∷ c ∷ bs) t m

-- what C's grammar asks of each of some tops
abbrev Holds : List Top → Type 0
Holds ts = (t : Top) → Memᴰ t ts → top_binds t ≡ true

holds_append : (ts us : List Top) → Holds ts → Holds us → Holds (ts ++ us)
holds_append ts us h k t m = go (Memᴰ.append_cases ts m)
  where
    go : Memᴰ t ts ⊎ Memᴰ t us → top_binds t ≡ true
    go (inl n) = h t n
    go (inr n) = k t n

head_binds : Holds unit_head
unfolding code_binds simple_binds plain_binds declarators_bind binds level
head_binds t m = first m
  where
    first : Memᴰ t unit_head → top_binds t ≡ true
    first (Memᴰ.tail
        (Memᴰ.tail (Memᴰ.tail (Memᴰ.tail (Memᴰ.tail (Memᴰ.tail (Memᴰ.tail l))))))) =
        elim l [ ]
    first (Memᴰ.head e) = rw e
    first (Memᴰ.tail (Memᴰ.head e)) = rw e
    first (Memᴰ.tail (Memᴰ.tail (Memᴰ.head e))) = rw e
    first (Memᴰ.tail (Memᴰ.tail (Memᴰ.tail (Memᴰ.head e)))) = rw e
    first (Memᴰ.tail (Memᴰ.tail (Memᴰ.tail (Memᴰ.tail (Memᴰ.head e))))) =
        rw e
    first (Memᴰ.tail
        (Memᴰ.tail (Memᴰ.tail (Memᴰ.tail (Memᴰ.tail (Memᴰ.head e)))))) =
        rw e
    first (Memᴰ.tail
        (Memᴰ.tail
        (Memᴰ.tail (Memᴰ.tail (Memᴰ.tail (Memᴰ.tail (Memᴰ.head e))))))) =
        rw e

end_binds : (bs : List Body) → Holds (last_unit_end bs)
unfolding code_binds last_unit_end
end_binds bs = holds_append (map (λ (b : Body). extern (body_key b)) bs) _ (externs bs) ends
  where
    externs : (cs : List Body) → Holds (map (λ (b : Body). extern (body_key b)) cs)
    externs [] t m = absurd (Memᴰ.not-nil m)
    externs (c ∷ cs) t (Memᴰ.head e) = rw e
    externs (c ∷ cs) t (Memᴰ.tail m) = externs cs t m

    ends : Holds (table (map body_key bs) ∷ count (length bs) ∷ [])
    ends t (Memᴰ.tail (Memᴰ.tail m)) = elim m [ ]
    ends t (Memᴰ.head e) = rw e
    ends t (Memᴰ.tail (Memᴰ.head e)) = rw e

cut_binds : (max : ℕ) (closed ts : List Top) (n : ℕ) (gs : List (List Body)) → Holds closed
    → Holds ts → Each AllBinding gs
    → (u : TranslationUnit) → Memᴰ u (cut max closed ts n gs) → Holds u.tree
unfolding cut
cut_binds max closed ts n [] h k g u (Memᴰ.tail m) = elim m [ ]
cut_binds max closed ts n [] h k g u (Memᴰ.head e) = rw e (holds_append ts closed k h)
cut_binds max closed ts n (c ∷ gs) h k g u m =
    let more : Holds (ts ++ emit_group c) = holds_append ts (emit_group c) k (group_binds c g.0) in
    go (leb max (length (text_of (ts ++ emit_group c)))) more
    (cut_binds max closed unit_head (n + length c) gs h head_binds g.1 u)
    (cut_binds max closed (ts ++ emit_group c) (n + length c) gs h more g.1 u) m
  where
    go : (b : Bool) → Holds (ts ++ emit_group c)
        → (Memᴰ u (cut max closed unit_head (n + length c) gs) → Holds u.tree)
        → (Memᴰ u (cut max closed (ts ++ emit_group c) (n + length c) gs) → Holds u.tree)
        → Memᴰ u
        (cond b (record { tree = ts ++ emit_group c; done = n + length c; last = false }
        ∷ cut max closed unit_head (n + length c) gs)
        (cut max closed (ts ++ emit_group c) (n + length c) gs))
        → Holds u.tree
    go true more next same (Memᴰ.head e) = rw e more
    go true more next same (Memᴰ.tail l) = next l
    go false more next same l = same l

bodies_bind : (multiplier : ℕ) (bs : List Block) → AllBinding (map (body_of multiplier) bs)
bodies_bind multiplier [] = tt
bodies_bind multiplier (b ∷ bs) = (forms_bind multiplier b, bodies_bind multiplier bs)

body_binds : (bs : List Body) → AllBinding bs → (i : ℕ) → Binding (get_or bs i default_body)
body_binds [] h i = tt
body_binds (b ∷ bs) h zero = h.0
body_binds (b ∷ bs) h (suc i) = body_binds bs h.1 i

members_bind : (bs : List Body) → AllBinding bs → (is : List ℕ) → AllBinding (bodies_of bs is)
unfolding bodies_of
members_bind bs h [] = tt
members_bind bs h (i ∷ is) = (body_binds bs h i, members_bind bs h is)

groups_bind : (bs : List Body) → AllBinding bs → (gs : List (List ℕ))
    → Each AllBinding (map (bodies_of bs) gs)
groups_bind bs h [] = tt
groups_bind bs h (g ∷ gs) = (members_bind bs h g, groups_bind bs h gs)

tree_binds_lem : (ts : List Top) → Holds ts → tree_binds ts ≡ true
tree_binds_lem [] h = refl
tree_binds_lem (t ∷ ts) h =
    both (top_binds t) (tree_binds ts) (h t (Memᴰ.head refl))
    (tree_binds_lem ts (λ u m. h u (Memᴰ.tail m)))

-- every unit of some blocks, in any groups and at any wished size
pub units_bind : (multiplier max : ℕ) (bs : List Block) (gs : List (List ℕ)) (u : TranslationUnit)
    → Memᴰ u (emit_c_chunked max (map (body_of multiplier) bs) gs) → tree_binds u.tree ≡ true
unfolding emit_c_chunked
units_bind multiplier max bs gs u m =
    let bodies = map (body_of multiplier) bs in
    tree_binds_lem u.tree
    (cut_binds max (last_unit_end bodies) unit_head 0 (map (bodies_of bodies) gs) (end_binds bodies)
    head_binds (groups_bind bodies (bodies_bind multiplier bs) gs) u m)
