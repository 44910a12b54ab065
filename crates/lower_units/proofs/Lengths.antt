-- How long the texts of blocks, groups and units are at most: far below 2^64 for every accepted
-- file, so a 64-bit length is exact.
use Prim.Native.Nat.{ℕ, zero, suc, ◌+◌, ◌*◌, ◌%◌, ◌≤◌, ◌<◌}
use mathlib.Core.Bool.{Bool, true, false, cond}
use mathlib.Core.List.{List, [], ◌∷◌, ◌++◌, map, flatten, Memᴰ}
use mathlib.Core.Option.{Option, none, some}
use mathlib.Core.Path.{◌≡◌, refl, subst}
use native.Mathlib.Omega.{arith}
use native.Mathlib.Decide.{dec_lt}
use borrow.Author.Tests.{leb-false}
use lib.Dec.{leb, eqb}
use lib.ListN.{length, get_or, length-map}
use Rattle.armv4t.specs.Bit0.{clear_bit0}
use Rattle.file_blocks.specs.Parse.{Block, Parsed, parse, instr_total}
use Rattle.file_blocks.proofs.Accepted.{length_of_lem, few_blocks, few_instrs, instrs_of_lem}
use Rattle.base_lists.specs.Lists.{range, among, count}
use Rattle.plan_groups.specs.Plan.{groups}
use Rattle.plan_groups.proofs.Cutting.{instructions, instructions_append, instructions_within}
use Rattle.plan_groups.proofs.GroupLaws.{groups_once, groups_only, group_inside}
use Rattle.base_lists.proofs.Places.{member_at, map_at}
use Rattle.base_lists.proofs.Counts.{counted}
use Rattle.base_lists.proofs.Range.{length_range, range_own}
use Rattle.base_text.specs.Wrote.{max_usize}
use Rattle.base_text.specs.Digits.{last_digits}
use Rattle.base_text.specs.Doc.{hex8, text, ◌▸◌, hexadecimal8, each, spaces}
use Rattle.base_text.proofs.Lengths.{most, length_most}
use Rattle.c_tree.specs.Expr.{u32, x-t, Expr, lit, udec, band, bin}
use Rattle.c_tree.specs.Stmt.{Plain, declare, Owner, common, other, Code, end, ◌⨾◌, gap, plain}
use Rattle.c_tree.specs.Stmt.{ret_interp, when, braces, Top, extern, table, count as counts}
use Rattle.c_tree.specs.Preamble.{v32}
use Rattle.c_tree.specs.Print.{expr_text, key_text, cases_text, code_text, row_text, unit_text}
use Rattle.c_tree.proofs.Laws.{length_unit}
use Rattle.c_tree.proofs.Lengths.{most_append}
use Rattle.lower_forms.specs.Forms.{Lines, Native, straight, straight_if, branch_if, jump, pair, bx}
use Rattle.lower_forms.specs.Forms.{pop, Form, shell, records_in, Body}
use Rattle.lower_forms.proofs.RecordCount.{record_counts, body_count}
use Rattle.lower_forms.specs.Block.{body_of}
use Rattle.base_lists.proofs.Each.{Each}
use Rattle.lower_forms.proofs.Lengths.{plains_most, lines_most, native_most, form_most, forms_within}
use Rattle.lower_forms.proofs.Lengths.{closing_within}
use Rattle.lower_units.specs.Block.{body_key, body_end, nl, sp, line, lines, goto_code, transfer}
use Rattle.lower_units.specs.Block.{closing, conditional, leave, to_thumb, to_arm, native_text}
use Rattle.lower_units.specs.Block.{shell_code, code_from, under_guard, block_code, closing_lines}
use Rattle.file_records.specs.BlockRecord.{key_plus}
use Rattle.file_blocks.specs.Address.{outside_rom_bios}
use Rattle.lower_units.specs.Units.{with_locals, emit_block, labelled, group_code, forwarders}
use Rattle.lower_units.specs.Units.{emit_group, unit_head, last_unit_end, TranslationUnit, text_of}
use Rattle.lower_units.specs.Units.{cut, default_body, bodies_of, emit_c_chunked}
use Rattle.base_lists.proofs.Bools.{either}

-- the most bytes of the text of code
abbrev code_most : Code → ℕ
code_most c = most (code_text c)

spaces_most : (n : ℕ) → most (spaces n) ≡ n
spaces_most zero = refl
spaces_most (suc n) = omega (arith, spaces_most n)

key_most : (k : ℕ) → most (key_text k) ≡ 10
key_most k = either (λ s. most (hex8 (clear_bit0 k) ▸ text s) ≡ 10) (eqb (k % 2) 1) refl refl

line_most : (o : Owner) (ps : List Plain) (c : Code)
    → code_most (line o ps c) ≤ plains_most ps + code_most c
line_most o [] c = omega arith
line_most o (p ∷ []) c = omega arith
line_most o (p ∷ q ∷ ps) c = omega (arith, line_most o (q ∷ ps) c)

lines_most_lem : (o : Owner) (n : ℕ) (ls : Lines) (c : Code) → n ≤ 8
    → code_most (lines o n ls c) ≤ lines_most ls + code_most c
lines_most_lem o n [] c h = omega arith
lines_most_lem o n (l ∷ ls) c h =
    omega (arith, h, spaces_most n, line_most o l (nl ⨾ lines o n ls c), lines_most_lem o n ls c h)

goto_most : (b : Bool) (o : Owner) (n k : ℕ) (c : Code) → n ≤ 8
    → code_most (goto_code b o n k c) ≤ 80 + code_most c
unfolding goto_code
goto_most true o n k c h = omega (arith, h, spaces_most n, key_most k)
goto_most false o n k c h = omega (arith, h, spaces_most n, key_most k)

transfer_most : (ks : List ℕ) (a : ℕ) (o : Owner) (n k : ℕ) (c : Code) → n ≤ 8
    → code_most (transfer ks a o n k c) ≤ 80 + code_most c
unfolding transfer
transfer_most ks a o n k c h =
    either (λ (d : Code). code_most d ≤ 80 + code_most c) (among k ks)
    (goto_most (leb (clear_bit0 k) a) o n k c h) (omega (arith, h, spaces_most n))

conditional_most : (o : Owner) (e : Expr) (b c : Code)
    → code_most (conditional o e b c) ≤ 300 + most (expr_text e) + code_most b + code_most c
conditional_most o e b c = omega arith

-- the text of a native record is 400 bytes longer than what varies in it, without what stands after
native_most_lem : (ks : List ℕ) (a : ℕ) (o : Owner) (r : Native) (c : Code)
    → code_most (native_text ks a o r c) ≤ 400 + native_most r + code_most c
unfolding native_text
native_most_lem ks a o (straight t l) c =
    omega (
      arith,
      lines_most_lem o 4 t (sp 4 ⨾ braces (nl ⨾ lines o 8 l (sp 4 ⨾ end)) (nl ⨾ c)) (omega arith),
      lines_most_lem o 8 l (sp 4 ⨾ end) (omega arith),
    )
native_most_lem ks a o (straight_if t e l) c =
    let body : Code = nl ⨾ lines o 8 l (sp 6 ⨾ end) in
    omega (
      arith,
      lines_most_lem o 4 t (conditional o e body c) (omega arith),
      conditional_most o e body c,
      lines_most_lem o 8 l (sp 6 ⨾ end) (omega arith),
    )
native_most_lem ks a o (branch_if t e s j) c =
    let way : Code = transfer ks a o 8 j (sp 6 ⨾ end) in
    let body : Code = sp 1 ⨾ line o s (nl ⨾ way) in
    omega (
      arith,
      lines_most_lem o 4 t (conditional o e body c) (omega arith),
      conditional_most o e body c,
      line_most o s (nl ⨾ way),
      transfer_most ks a o 8 j (sp 6 ⨾ end) (omega arith),
    )
native_most_lem ks a o (jump t j) c =
    omega (
      arith,
      lines_most_lem o 4 t (transfer ks a o 4 j end) (omega arith),
      transfer_most ks a o 4 j
          end (omega arith),
    )
native_most_lem ks a o (pair t j) c =
    omega (
      arith,
      lines_most_lem o 4 t (transfer ks a o 4 j end) (omega arith),
      transfer_most ks a o 4 j
          end (omega arith),
    )
native_most_lem ks a o (bx t e) c =
    let way : Code = when o false (other (bin band (v32 x-t) (lit udec 1))) (to_thumb o) (to_arm o) in
    omega (
      arith,
      lines_most_lem o 4 t
          (sp 4 ⨾ braces (sp 1 ⨾ plain o (declare (u32, x-t) e []) ⨾ gap true 6 ⨾ way) (nl ⨾ end))
          (omega arith),
    )
native_most_lem ks a o (pop t p l q e) c =
    let way : Code = sp 6 ⨾ plain o q ⨾ leave o e in
    omega (
      arith,
      lines_most_lem o 4 t (sp 4 ⨾ braces (sp 1 ⨾ plain o p ⨾ nl ⨾ lines o 6 l way) (nl ⨾ end))
          (omega arith),
      lines_most_lem o 6 l way (omega arith),
    )

-- a form stands for a record at least
records_some : (r : Native) → 1 ≤ records_in r
records_some (straight t l) = omega arith
records_some (straight_if t e l) = omega arith
records_some (branch_if t e s k) = omega arith
records_some (jump t k) = omega arith
records_some (pair t k) = omega arith
records_some (bx t e) = omega arith
records_some (pop t s l u e) = omega arith

-- a block whose forms are as short as those of every instruction, and which has no more records
-- than it counts
pub record Short (b : Body) : Type 0 where
  pub forms : Each (λ (r : Form). form_most r ≤ 2200) b.forms
  pub count : record_counts b.forms ≤ b.count

module _ (ks : List ℕ) (b : Body) (short : Short b) where
  closing_most : code_most (closing ks b) ≤ 180
  unfolding closing
  closing_most =
      omega (
        arith,
        closing_within b.pending (body_end b),
        lines_most_lem common 4 (closing_lines b)
            (transfer ks b.addr common 4 (key_plus (body_end b) b.thumb) end) (omega arith),
        transfer_most ks b.addr common 4 (key_plus (body_end b) b.thumb) end (omega arith),
      )

  code_from_most : (i : ℕ) (rs : List Form) → Each (λ (r : Form). form_most r ≤ 2200) rs
      → code_most (code_from ks b i rs) ≤ 180 + record_counts rs * 2600
  unfolding code_from
  code_from_most i [] h = omega (arith, closing_most)
  code_from_most i (Form.native r ∷ rs) h =
      omega (
        arith,
        h.0,
        records_some r,
        native_most_lem ks b.addr (Owner.native_of (body_key b)) r
            (code_from ks b (i + records_in r) rs),
        code_from_most (i + records_in r) rs h.1,
      )
  code_from_most i (shell true t k ∷ []) h =
      omega (
        arith,
        h.0,
        closing_most,
        lines_most_lem common 4 t
            (sp 4 ⨾ ret_interp (body_key b) i ⨾ nl ⨾ closing ks b) (omega arith),
      )
  code_from_most i (shell false t k ∷ []) h =
      omega (
        arith,
        h.0,
        lines_most_lem common 4 t (sp 4 ⨾ ret_interp (body_key b) i ⨾ nl ⨾ end)
            (omega arith),
      )
  code_from_most i (shell u t k ∷ r ∷ rs) h =
      omega (
        arith,
        h.0,
        lines_most_lem common 4 t (shell_code b i k (code_from ks b (i + 1) (r ∷ rs))) (omega arith),
        code_from_most (i + 1) (r ∷ rs) h.1,
      )

  guard_most : (h : Option ℕ) → code_most (under_guard ks b h) ≤ 400 + b.count * 2600
  unfolding under_guard
  guard_most none = omega arith
  guard_most (some x) = omega (arith, short.count, code_from_most 0 b.forms short.forms)

  code_most_lem : code_most (block_code ks b) ≤ 400 + b.count * 2600
  unfolding block_code
  code_most_lem =
      either (λ (c : Code). code_most c ≤ 400 + b.count * 2600) (outside_rom_bios b.addr)
      (guard_most b.hash)
      (omega (arith, short.count, code_from_most 0 b.forms short.forms))

-- what the instructions of a block become is so
pub body_short : (multiplier : ℕ) (b : Block) → Short (body_of multiplier b)
unfolding body_of
body_short multiplier b =
    record { forms = forms_within multiplier b; count = omega (arith, body_count multiplier b) }

-- what the members of a group take at most: so much for each instruction, and so much for label,
-- case and entry of each block and its share of the heads
abbrev pub members_most : List Body → ℕ
members_most [] = 0
members_most (b ∷ bs) = 700 + b.count * 2600 + members_most bs

labelled_most : (ks : List ℕ) (bs : List Body) → Each Short bs
    → code_most (labelled ks bs) + length bs * 280 ≤ members_most bs
unfolding labelled
labelled_most ks [] h = omega arith
labelled_most ks (b ∷ bs) h =
    omega (
      arith,
      key_most (body_key b),
      most_append (block_code ks b) (nl ⨾ labelled ks bs),
      code_most_lem ks b h.0,
      labelled_most ks bs h.1,
    )

cases_most : (n : ℕ) (bs : List Body) → most (cases_text n (map body_key bs)) ≤ length bs * 51
cases_most n [] = omega arith
cases_most n (b ∷ bs) = omega (arith, key_most (body_key b), cases_most (suc n) bs)

forwarders_most : (k n : ℕ) (bs : List Body)
    → most (unit_text (forwarders k n bs)) ≤ 1 + length bs * 99
unfolding forwarders
forwarders_most k n [] = omega arith
forwarders_most k n (b ∷ bs) = omega (arith, key_most (body_key b), forwarders_most k (suc n) bs)

tree_most : (bs : List Body) → Each Short bs → most (unit_text (emit_group bs)) ≤ members_most bs
unfolding emit_group emit_block group_code with_locals
tree_most [] h = omega arith
tree_most (b ∷ []) h = omega (arith, key_most (body_key b), code_most_lem [] b h.0)
tree_most (b ∷ c ∷ bs) h =
    let all : List Body = b ∷ c ∷ bs in
    omega (
      arith,
      cases_most 0 all,
      labelled_most (map body_key all) all h,
      forwarders_most
          (body_key b) 0 all,
    )

-- the text of a group, or of a lone block
pub group_most : (bs : List Body) → Each Short bs → length (text_of (emit_group bs)) ≤ members_most bs
unfolding text_of
group_most bs h = omega (arith, length_most (unit_text (emit_group bs)), tree_most bs h)

head_most : length (text_of unit_head) ≤ 4000
unfolding text_of hexadecimal8 last_digits
head_most = omega (arith, length_most (unit_text unit_head))

-- externs, table and count
end_most : (bs : List Body) → length (text_of (last_unit_end bs)) ≤ 200 + length bs * 100
unfolding text_of last_unit_end
end_most bs =
    let names : List Top = map (λ (b : Body). extern (body_key b)) bs in
    let ends : List Top = table (map body_key bs) ∷ counts (length bs) ∷ [] in
    omega (
      arith,
      length_unit names ends,
      length_most (unit_text names),
      length_most (unit_text ends),
      externs bs,
      rows bs,
    )
  where
    externs : (cs : List Body)
        → most (unit_text (map (λ (b : Body). extern (body_key b)) cs)) ≤ length cs * 60
    externs [] = omega arith
    externs (c ∷ cs) = omega (arith, key_most (body_key c), externs cs)

    rows : (cs : List Body) → most (each row_text (map body_key cs)) ≤ length cs * 40
    rows [] = omega arith
    rows (c ∷ cs) = omega (arith, key_most (body_key c), rows cs)

-- the members of groups in all
abbrev groups_most : List (List Body) → ℕ
groups_most [] = 0
groups_most (g ∷ gs) = members_most g + groups_most gs

-- a text and another after it
pub text_append : (ts us : List Top)
    → length (text_of (ts ++ us)) ≡ length (text_of ts) + length (text_of us)
unfolding text_of
text_append ts us = length_unit ts us

-- tops with a text of at most n bytes
abbrev Within : ℕ → List Top → Type 0
Within n ts = length (text_of ts) ≤ n

-- a unit holds PREAMBLE, groups, and the end if it is the last
cut_most : (max : ℕ) (closed ts : List Top) (n before : ℕ) (gs : List (List Body))
    → Each (Each Short) gs → Within (4000 + before) ts
    → (u : TranslationUnit) → Memᴰ u (cut max closed ts n gs)
    → Within (4000 + before + groups_most gs + length (text_of closed)) u.tree
unfolding cut
cut_most max closed ts n before [] g h u (Memᴰ.tail m) = elim m [ ]
cut_most max closed ts n before [] g h u (Memᴰ.head e) =
    rw e (omega (arith, text_append ts closed, h))
cut_most max closed ts n before (c ∷ gs) g h u m =
    let more : Within (4000 + (before + members_most c)) (ts ++ emit_group c) =
    omega (arith, text_append ts (emit_group c), group_most c g.0, h) in
    go (leb max (length (text_of (ts ++ emit_group c)))) more
    (cut_most max closed unit_head (n + length c) (before + members_most c) gs g.1
    (omega (arith, head_most)) u)
    (cut_most max closed (ts ++ emit_group c) (n + length c) (before + members_most c) gs g.1 more
    u) m
  where
    go : (b : Bool) → Within (4000 + (before + members_most c)) (ts ++ emit_group c)
        → (Memᴰ u (cut max closed unit_head (n + length c) gs)
        → Within (4000 + (before + members_most c) + groups_most gs + length (text_of closed))
        u.tree)
        → (Memᴰ u (cut max closed (ts ++ emit_group c) (n + length c) gs)
        → Within (4000 + (before + members_most c) + groups_most gs + length (text_of closed))
        u.tree)
        → Memᴰ u
        (cond b (record { tree = ts ++ emit_group c; done = n + length c; last = false }
        ∷ cut max closed unit_head (n + length c) gs)
        (cut max closed (ts ++ emit_group c) (n + length c) gs))
        → Within (4000 + before + (members_most c + groups_most gs) + length (text_of closed))
        u.tree
    go true more next same (Memᴰ.head e) = rw e (omega (arith, more))
    go true more next same (Memᴰ.tail l) = omega (arith, next l)
    go false more next same l = omega (arith, same l)

bodies_short : (multiplier : ℕ) (bs : List Block) → Each Short (map (body_of multiplier) bs)
bodies_short multiplier [] = tt
bodies_short multiplier (b ∷ bs) = (body_short multiplier b, bodies_short multiplier bs)

member_short : (bs : List Body) → Each Short bs → (i : ℕ) → Short (get_or bs i default_body)
member_short [] h i = record { forms = tt; count = omega arith }
member_short (b ∷ bs) h zero = h.0
member_short (b ∷ bs) h (suc i) = member_short bs h.1 i

members_short : (bs : List Body) → Each Short bs → (is : List ℕ) → Each Short (bodies_of bs is)
unfolding bodies_of
members_short bs h [] = tt
members_short bs h (i ∷ is) = (member_short bs h i, members_short bs h is)

groups_short : (bs : List Body) → Each Short bs → (gs : List (List ℕ))
    → Each (Each Short) (map (bodies_of bs) gs)
groups_short bs h [] = tt
groups_short bs h (g ∷ gs) = (members_short bs h g, groups_short bs h gs)

-- so the text of a group of some blocks, by their numbers, is no longer than what they take at most
pub group_within : (multiplier : ℕ) (bs : List Block) (is : List ℕ)
    → length (text_of (emit_group (bodies_of (map (body_of multiplier) bs) is)))
    ≤ members_most (bodies_of (map (body_of multiplier) bs) is)
group_within multiplier bs is =
    group_most (bodies_of (map (body_of multiplier) bs) is)
    (members_short (map (body_of multiplier) bs) (bodies_short multiplier bs) is)

-- a unit is handed on after the group with which it reaches max, so it has at most max bytes and
-- one group more, PREAMBLE and the end apart
cut_within : (max longest : ℕ) (closed ts : List Top) (n : ℕ) (gs : List (List Body))
    → Each (λ (g : List Body). Within longest (emit_group g)) gs → Within (4000 + max) ts
    → (u : TranslationUnit) → Memᴰ u (cut max closed ts n gs)
    → Within (4000 + max + longest + length (text_of closed)) u.tree
unfolding cut
cut_within max longest closed ts n [] g h u (Memᴰ.tail m) = elim m [ ]
cut_within max longest closed ts n [] g h u (Memᴰ.head e) =
    rw e (omega (arith, text_append ts closed, h))
cut_within max longest closed ts n (c ∷ gs) g h u m =
    go (leb max (length (text_of (ts ++ emit_group c)))) refl
    (cut_within max longest closed unit_head (n + length c) gs g.1 (omega (arith, head_most)) u)
    (λ short. cut_within max longest closed (ts ++ emit_group c) (n + length c) gs g.1 short u) m
  where
    go : (b : Bool) → leb max (length (text_of (ts ++ emit_group c))) ≡ b
        → (Memᴰ u (cut max closed unit_head (n + length c) gs)
        → Within (4000 + max + longest + length (text_of closed)) u.tree)
        → (Within (4000 + max) (ts ++ emit_group c)
        → Memᴰ u (cut max closed (ts ++ emit_group c) (n + length c) gs)
        → Within (4000 + max + longest + length (text_of closed)) u.tree)
        → Memᴰ u
        (cond b (record { tree = ts ++ emit_group c; done = n + length c; last = false }
        ∷ cut max closed unit_head (n + length c) gs)
        (cut max closed (ts ++ emit_group c) (n + length c) gs))
        → Within (4000 + max + longest + length (text_of closed)) u.tree
    go true is next same (Memᴰ.head e) =
        rw e (omega (arith, text_append ts (emit_group c), g.0, h))
    go true is next same (Memᴰ.tail l) = next l
    go false is next same l = same (omega (arith, leb-false max (length (text_of (ts ++ emit_group c))) is)) l

-- where no group is longer than `longest`, no unit is longer than that, max, PREAMBLE and the end
pub units_within : (multiplier limit max longest : ℕ) (bs : List Block)
    → Each (λ (g : List Body). length (text_of (emit_group g)) ≤ longest)
    (map (bodies_of (map (body_of multiplier) bs)) (groups limit bs))
    → (u : TranslationUnit)
    → Memᴰ u (emit_c_chunked max (map (body_of multiplier) bs) (groups limit bs))
    → length (text_of u.tree) ≤ 4200 + max + longest + length bs * 100
unfolding emit_c_chunked
units_within multiplier limit max longest bs g u m =
    omega (
      arith,
      cut_within max longest (last_unit_end (map (body_of multiplier) bs)) unit_head 0
          (map (bodies_of (map (body_of multiplier) bs)) (groups limit bs)) g
          (omega (arith, head_most)) u m,
      end_most (map (body_of multiplier) bs),
      length-map bs (body_of multiplier),
    )

-- what each block adds to a unit at most
costs : List Body → List ℕ
costs bs = map (λ (b : Body). members_most (b ∷ [])) bs

members_cost : (bs : List Body) (is : List ℕ) → ((i : ℕ) → Memᴰ i is → i < length bs)
    → members_most (bodies_of bs is) ≡ instructions (costs bs) is
unfolding bodies_of instructions costs
members_cost bs [] h = refl
members_cost bs (i ∷ is) h =
    omega (
      arith,
      map_at (λ (b : Body). members_most (b ∷ [])) bs i default_body 0 (h i (Memᴰ.head refl)),
      members_cost bs is (λ j m. h j (Memᴰ.tail m)),
    )

groups_cost : (bs : List Body) (gs : List (List ℕ))
    → ((g : List ℕ) → Memᴰ g gs → (i : ℕ) → Memᴰ i g → i < length bs)
    → groups_most (map (bodies_of bs) gs) ≡ instructions (costs bs) (flatten gs)
unfolding flatten instructions
groups_cost bs [] h = refl
groups_cost bs (g ∷ gs) h =
    omega (
      arith,
      members_cost bs g (h g (Memᴰ.head refl)),
      groups_cost bs gs (λ k m. h k (Memᴰ.tail m)),
      instructions_append (costs bs) g (flatten gs),
    )

-- each block once, in the order of the file
range_shift : (x : ℕ) (xs : List ℕ) (n i : ℕ)
    → instructions (x ∷ xs) (range n (suc i)) ≡ instructions xs (range n i)
unfolding instructions
range_shift x xs zero i = refl
range_shift x xs (suc n) i = omega (arith, range_shift x xs n (suc i))

file_cost : (multiplier : ℕ) (bs : List Block)
    → instructions (costs (map (body_of multiplier) bs)) (range (length bs) 0)
    ≡ length bs * 700 + instr_total bs * 2600
unfolding instructions costs instr_total body_of
file_cost multiplier [] = refl
file_cost multiplier (b ∷ bs) =
    omega (
      arith,
      range_shift (members_most (body_of multiplier b ∷ [])) (costs (map (body_of multiplier) bs))
          (length bs) 0,
      file_cost multiplier bs,
    )

module _ (limit : ℕ) (bs : List Block) where
  -- no block stands in the groups more often than in the file
  once : (i : ℕ) → count i (flatten (groups limit bs)) ≤ count i (range (length bs) 0)
  once i =
      elim (dec_lt i (length bs)) [
        | yes h ↦ omega (arith, groups_once limit bs i h, counted (listed h))
        | no out ↦ omega (arith, groups_only limit bs i (omega arith))
      ]
    where
      listed : i < length bs → Memᴰ i (range (length bs) 0)
      listed h =
          subst (λ (k : ℕ). Memᴰ k (range (length bs) 0)) (range_own (length bs) i h)
          (member_at (range (length bs) 0) i 0 (omega (arith, length_range (length bs) 0)))

  -- so the members of all groups take no more than the blocks of the file
  all_members : (multiplier : ℕ)
      → groups_most (map (bodies_of (map (body_of multiplier) bs)) (groups limit bs))
      ≤ length bs * 700 + instr_total bs * 2600
  all_members multiplier =
      let bodies : List Body = map (body_of multiplier) bs in
      omega (
        arith,
        groups_cost bodies (groups limit bs)
            (λ g m i h. omega
            (arith, length-map bs (body_of multiplier), group_inside limit bs g m i h)),
        instructions_within (costs bodies) (flatten (groups limit bs)) (range (length bs) 0) once,
        file_cost multiplier bs,
      )

  -- the text of a unit: at most all blocks, PREAMBLE and the table, whatever the blocks
  pub units_most : (multiplier max : ℕ) (u : TranslationUnit)
      → Memᴰ u (emit_c_chunked max (map (body_of multiplier) bs) (groups limit bs))
      → length (text_of u.tree) ≤ 4200 + length bs * 800 + instr_total bs * 2600
  unfolding emit_c_chunked
  units_most multiplier max u m =
      let bodies : List Body = map (body_of multiplier) bs in
      omega (
        arith,
        cut_most max (last_unit_end bodies) unit_head 0 0 (map (bodies_of bodies) (groups limit bs))
            (groups_short bodies (bodies_short multiplier bs) (groups limit bs))
            (omega (arith, head_most)) u m,
        end_most bodies,
        length-map bs (body_of multiplier),
        all_members multiplier,
      )

-- the text of every unit of an accepted file: at most 2,778,730,600 bytes by its limits
pub units_short : (f : List ℕ) (bs : List Block) → parse f ≡ Parsed.accepted bs
    → (multiplier limit max : ℕ) (u : TranslationUnit)
    → Memᴰ u (emit_c_chunked max (map (body_of multiplier) bs) (groups limit bs))
    → length (text_of u.tree) < max_usize
units_short f bs accepted multiplier limit max u m =
    omega (
      arith,
      units_most limit bs multiplier max u m,
      length_of_lem f bs accepted,
      few_blocks f bs accepted,
      instrs_of_lem f bs accepted,
      few_instrs f bs accepted,
    )
