-- To be believed: that demand 3 applies: each block has one function, in the unit where its group
-- is, and a way from it through the text of the records that it prints.
use Rattle.std.specs.Prelude.{ℕ, ◌+◌, ◌≤◌, ◌≡◌, refl, Bool, true, false, cond, eqb}
use mathlib.Core.List.{List, [], ◌∷◌, ◌++◌, map, Memᴰ}
use Rattle.std.proofs.Math.Option.{Option, none, some}
use Rattle.std.proofs.Math.ListN.{get_elem?}
use Rattle.file_blocks.specs.Parse.{Block, block_key, AcceptedAs}
use Rattle.file_blocks.specs.Address.{outside_rom_bios}
use Rattle.plan_groups.specs.Plan.{groups}
use Rattle.c_tree.specs.Expr.{Expr}
use Rattle.c_tree.specs.Stmt.{guard, gate, other, Owner, Code, helper, block, group, Top, opening}
use Rattle.c_tree.specs.Stmt.{function, blank, extern, table, count}
use Rattle.lower_forms.specs.Forms.{Native, straight, straight_if, branch_if, jump, pair, bx, pop}
use Rattle.lower_forms.specs.Forms.{Form, shell, records_in, Body}
use Rattle.lower_forms.specs.Block.{body_of}
use Rattle.lower_units.specs.Block.{body_key, body_length}
use Rattle.lower_units.specs.Units.{TranslationUnit, emit_group, bodies_of, units_by}
use Rattle.claim_ways.specs.Ways.{Event, reach, said, native_start, interpreted, Way}
use Rattle.claim_ways.specs.Claim.{times_carried, all_units}

-- 1 for the function of the block with the key k, else 0
abbrev pub function_times : ℕ → Top → ℕ
function_times k opening = 0
function_times k (function (helper h) c) = 0
function_times k (function (block j) c) = cond (eqb k j) 1 0
function_times k (function (group j) c) = 0
function_times k blank = 0
function_times k (extern j) = 0
function_times k (table js) = 0
function_times k (count n) = 0

-- how often a tree has that function
abbrev pub function_count : ℕ → List Top → ℕ
function_count k [] = 0
function_count k (t ∷ ts) = function_times k t + function_count k ts

-- whether a native form leaves the block whatever its condition, so that nothing is printed after
-- it
abbrev pub leaves : Native → Bool
leaves (straight t l) = false
leaves (straight_if t e l) = false
leaves (branch_if t e l k) = false
leaves (jump t k) = true
leaves (pair t k) = true
leaves (bx t e) = true
leaves (pop t p l q e) = true

-- what is carried out on a way through the text of some forms, each record by its own text: a
-- native one, or a fused pair, where its text starts, one that has a shell by the call of
-- interp_one in the shell. The block has the key k, the first record the index i
unfoldable pub form_events : ℕ → ℕ → List Form → List Event
form_events k i [] = []
form_events k i (Form.native r ∷ rs) =
    native_start k i (records_in r) ∷ cond (leaves r) [] (form_events k (i + records_in r) rs)
form_events k i (shell h t e ∷ rs) = interpreted k i ∷ form_events k (i + 1) rs

-- each form before the pair goes on to the next; the pair is two, and a record after it is dropped
all_forms : (e : Expr) → form_events 8 0
    (Form.native (straight [] []) ∷ shell false [] 0 ∷ Form.native (straight_if [] e [])
    ∷ Form.native (branch_if [] e [] 0) ∷ Form.native (pair [] 0) ∷ Form.native (straight [] [])
    ∷ [])
    ≡ native_start 8 0 1 ∷ interpreted 8 1 ∷ native_start 8 2 1 ∷ native_start 8 3 1
    ∷ native_start 8 4 2 ∷ []
unfolding form_events
all_forms e = refl

-- the same outside ROM and BIOS: after the guard said yes; a block without code bytes has neither a
-- guard nor text of records, and the interpreter carries out its first record in its place
abbrev pub guarded_events : Body → Option ℕ → List Event
guarded_events b none = interpreted (body_key b) 0 ∷ []
guarded_events b (some h) =
    said (guard b.addr (body_length b) h) true ∷ form_events (body_key b) 0 b.forms

-- what the guard says and what is carried out on a way through the text of a block
unfoldable pub body_events : Body → List Event
body_events b =
    cond (outside_rom_bios b.addr) (guarded_events b b.hash)
    (form_events (body_key b) 0 b.forms)

-- of some events what guard and gate said and what is carried out, in their order
abbrev pub answers_and_records : List Event → List Event
answers_and_records [] = []
answers_and_records (reach o ∷ es) = answers_and_records es
answers_and_records (said (guard a l h) x ∷ es) = said (guard a l h) x ∷ answers_and_records es
answers_and_records (said gate x ∷ es) = said gate x ∷ answers_and_records es
answers_and_records (said (other e) x ∷ es) = answers_and_records es
answers_and_records (native_start k i n ∷ es) = native_start k i n ∷ answers_and_records es
answers_and_records (interpreted k i ∷ es) = interpreted k i ∷ answers_and_records es

-- a consultation of the gate is one of them
gate_seen : (o : Owner) (e : Expr) → answers_and_records
    (native_start 8 0 1 ∷ reach o ∷ said (other e) true ∷ said gate false ∷ interpreted 8 1 ∷ [])
    ≡ native_start 8 0 1 ∷ said gate false ∷ interpreted 8 1 ∷ []
gate_seen o e = refl

module _ (toBody : Block → Body) where
  -- what demand 3 applies to in block i, which is b
  pub record AppliesToBlock (limit max : ℕ) (bs : List Block) (i : ℕ) (b : Block) : Type 0 where
    -- over all units it has one function
    pub single : function_count (block_key b) (all_units toBody limit max bs) ≡ 1
    -- its group stands in one piece in a unit, and the function in that piece
    pub members : List ℕ
    pub grouped : Memᴰ members (groups limit bs)
    pub among : Memᴰ i members
    pub unit : TranslationUnit
    pub made : Memᴰ unit (units_by toBody limit max bs)
    pub before : List Top
    pub after : List Top
    pub piece : unit.tree ≡ before ++ (emit_group (bodies_of (map toBody bs) members) ++ after)
    pub code : Code
    pub stands : Memᴰ (function (block (block_key b)) code)
        (emit_group (bodies_of (map toBody bs) members))
    -- a way from it goes through the block's text to its last record: where there is a guard it
    -- says yes; each record that the block prints is carried out by its own text, one after the
    -- other, the first among them; and nothing else is, nor is the gate consulted
    pub answers : List Bool
    pub events : List Event
    pub way : Way (all_units toBody limit max bs) code code answers events
    pub through : answers_and_records events ≡ body_events (toBody b)
    pub first : 1 ≤ times_carried (block_key b) 0 events

  -- each block of a file, if it is accepted, at a limit and a wished size
  unfoldable pub AppliesOf : ℕ → ℕ → List ℕ → Type 0
  AppliesOf limit max f =
      (bs : List Block) → AcceptedAs f bs → (i : ℕ) (b : Block)
      → get_elem? bs i ≡ some b → AppliesToBlock limit max bs i b

-- demand 3 of a file applies: each block has its function, and a way from it
unfoldable pub Demand3AppliesOf : ℕ → ℕ → ℕ → List ℕ → Type 0
Demand3AppliesOf multiplier = AppliesOf (body_of multiplier)
