-- To be believed: the tree of groups and units: emit_block's function, emit_group and
-- emit_c_chunked.
use Rattle.std.specs.Prelude.{ℕ, suc, ◌+◌, Bool, true, false, cond, List, [], ◌∷◌, ◌++◌, map, leb, length, get_or}
use Rattle.std.proofs.Math.Option.{none}
use Rattle.base_text.specs.Doc.{print}
use Rattle.c_tree.specs.Expr.{u32, x-pc}
use Rattle.c_tree.specs.Stmt.{registers, local, discard, common, gap, plain, label, call, switch}
use Rattle.c_tree.specs.Stmt.{Code, end, ◌⨾◌, ◌⧺◌, block, group, Top, function, blank, extern}
use Rattle.c_tree.specs.Stmt.{table, count}
use Rattle.c_tree.specs.Print.{unit_text}
use Rattle.c_tree.specs.Preamble.{preamble}
use Rattle.file_blocks.specs.Parse.{Block}
use Rattle.plan_groups.specs.Plan.{groups}
use Rattle.lower_forms.specs.Block.{body_of}
use Rattle.lower_forms.specs.Forms.{Body}
use Rattle.lower_units.specs.Block.{body_key, nl, sp, block_code}

-- c and pc, at the head of a function
unfoldable pub with_locals : Code → Code
with_locals c =
    gap true 4
    ⨾ plain common registers
    ⨾ gap true 4
    ⨾ plain common (local (u32, x-pc))
    ⨾ sp 1
    ⨾ plain common (discard (u32, x-pc))
    ⨾ nl
    ⨾ c

-- emit_block of a lone block: its function
unfoldable pub emit_block : Body → List Top
emit_block b = function (block (body_key b)) (with_locals (block_code [] b)) ∷ blank ∷ []

-- the labelled bodies of a group with the keys ks
unfoldable pub labelled : List ℕ → List Body → Code
labelled ks [] = end
labelled ks (b ∷ bs) = label (body_key b) ⨾ nl ⨾ (block_code ks b ⧺ (nl ⨾ labelled ks bs))

-- the body of a group's function
unfoldable pub group_code : List Body → Code
group_code bs = with_locals (sp 4 ⨾ switch (map body_key bs) ⨾ nl ⨾ labelled (map body_key bs) bs)

-- the functions that enter the group of the key k, counted from n
unfoldable pub forwarders : ℕ → ℕ → List Body → List Top
forwarders k n [] = blank ∷ []
forwarders k n (b ∷ bs) =
    function (block (body_key b)) (sp 1 ⨾ call k n ⨾ sp 1 ⨾ end) ∷ forwarders k (suc n) bs

-- emit_group, or emit_block where the group has one member; each with an empty line after it
unfoldable pub emit_group : List Body → List Top
emit_group [] = []
emit_group (b ∷ []) = emit_block b
emit_group (b ∷ c ∷ bs) =
    function (group (body_key b)) (group_code (b ∷ c ∷ bs)) ∷ blank
    ∷ forwarders (body_key b) 0 (b ∷ c ∷ bs)

-- PREAMBLE and a newline, at the head of each unit
abbrev pub unit_head : List Top
unit_head = preamble ++ (blank ∷ [])

-- the end of the last unit: externs, table and count of all blocks
unfoldable pub last_unit_end : List Body → List Top
last_unit_end bs =
    map (λ (b : Body). extern (body_key b)) bs ++ (table (map body_key bs) ∷ count (length bs) ∷ [])

-- a unit (document 01): its tree; the blocks done (document 01), that is how many blocks are done
-- up to its end, from the first unit on; whether it is the last
pub record TranslationUnit : Type 0 where
  pub tree : List Top
  pub done : ℕ
  pub last : Bool

-- the text of a tree
unfoldable pub text_of : List Top → List ℕ
text_of ts = print (unit_text ts)

-- the units of the groups to come, where the tree of the one reached is ts and n blocks are done:
-- it is handed on once its length reaches max after a group; the last is always made, and ends with
-- the tree last_end
unfoldable pub cut : ℕ → List Top → List Top → ℕ → List (List Body) → List TranslationUnit
cut max last_end ts n [] = record { tree = ts ++ last_end; done = n; last = true } ∷ []
cut max last_end ts n (g ∷ gs) =
    cond (leb max (length (text_of (ts ++ emit_group g))))
    (record { tree = ts ++ emit_group g; done = n + length g; last = false }
    ∷ cut max last_end unit_head (n + length g) gs)
    (cut max last_end (ts ++ emit_group g) (n + length g) gs)

-- what a number past the last block would name; no group has one
abbrev pub default_body : Body
default_body = record { addr = 0; thumb = false; count = 0; hash = none; forms = []; pending = 0 }

-- the bodies of a group's members, by their numbers
unfoldable pub bodies_of : List Body → List ℕ → List Body
bodies_of bs is = map (λ (i : ℕ). get_or bs i default_body) is

-- emit_c_chunked: the units of some blocks at a wished size (document 01), the groups being lists
-- of block numbers
unfoldable pub emit_c_chunked : ℕ → List Body → List (List ℕ) → List TranslationUnit
emit_c_chunked max bs gs = cut max (last_unit_end bs) unit_head 0 (map (bodies_of bs) gs)

-- the units of some blocks, where toBody says how one is printed: grouped by a limit, cut at a
-- wished size
unfoldable pub units_by : (Block → Body) → ℕ → ℕ → List Block → List TranslationUnit
units_by toBody limit max bs = emit_c_chunked max (map toBody bs) (groups limit bs)

-- the units of a file's blocks, where the guards' hashes are made with a multiplier
abbrev pub units : ℕ → ℕ → ℕ → List Block → List TranslationUnit
units multiplier = units_by (body_of multiplier)

-- what is answered of a unit: how long its text is, how many blocks are done up to its end, from
-- the first unit on, and whether it is the last
pub record UnitValues : Type 0 where
  pub length : ℕ
  pub done : ℕ
  pub last : Bool

-- the same by its tree
abbrev pub unit_values : TranslationUnit → UnitValues
unit_values u = record { length = length (text_of u.tree); done = u.done; last = u.last }
