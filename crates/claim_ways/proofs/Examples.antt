-- Ways: round a loop twice, up to where the chain gate says so, at any wished size; through a
-- shell; after the guard's yes and its no, of which the yes alone leads through the text of the
-- block's records; to a goto without its label, and to a condition without an answer.
use Prim.Native.Nat.{ℕ}
use mathlib.Core.Path.{◌≡◌, refl}
use mathlib.Core.Bool.{Bool, true, false}
use mathlib.Core.List.{List, [], ◌∷◌, ◌++◌, map, Memᴰ}
use mathlib.Core.Option.{none, some}
use native.Mathlib.Omega.{arith}
use Rattle.c_tree.specs.Expr.{word, x-cz, reg, lit}
use Rattle.c_tree.specs.Stmt.{is, set, tick, gate, other, Owner, goto, ret_if, Code, end, ◌⨾◌, when}
use Rattle.c_tree.specs.Stmt.{◌⧺◌, group, Top, function, Test, guard, label, braces}
use Rattle.c_tree.specs.Preamble.{v32}
use Rattle.lower_forms.specs.Forms.{branch_if, Form, shell, Body, straight}
use Rattle.lower_units.specs.Block.{body_key, nl, goto_code, transfer, native_text, code_from}
use Rattle.lower_units.specs.Block.{block_code, under_guard}
use Rattle.file_blocks.specs.Address.{outside_rom_bios}
use Rattle.lower_units.specs.Units.{with_locals, labelled, group_code, emit_group, unit_head}
use Rattle.lower_units.specs.Units.{last_unit_end, bodies_of, emit_c_chunked}
use Rattle.claim_ways.specs.Ways.{LabelAt, here, later, in_when, in_braces, Event, reach}
use Rattle.claim_ways.specs.Ways.{said, native_start}
use Rattle.claim_ways.specs.Ways.{interpreted, Way, w_gap, w_record, w_plain, w_goto, w_lost}
use Rattle.claim_ways.specs.Ways.{w_leave, w_stay, w_unsaid, w_call, w_ret_interp, w_entry}
use Rattle.claim_ways.specs.Ways.{w_when, w_unanswered, w_braces, stop}
use Rattle.claim_ways.specs.Claim.{carried, times_carried}
use Rattle.claim_ways.specs.Applies.{form_events, body_events, answers_and_records}
use Rattle.claim_ways.proofs.Functions.{trees, forwarder}
use Rattle.claim_ways.proofs.Pieces.{group_part, in_part}

-- a branch to itself if EQ
abbrev loop : Body
loop =
    record {
      addr = 0x08000100;
      thumb = false;
      count = 1;
      hash = none;
      forms =
          Form.native
          (branch_if ((tick 3 ∷ []) ∷ []) (v32 x-cz) (set (reg 15) is (lit word 0x08000100) ∷ [])
          0x08000100) ∷ [];
      pending = 0;
    }

-- swi
abbrev swi : Body
swi =
    record {
      addr = 0x08000104;
      thumb = false;
      count = 1;
      hash = none;
      forms = shell false ((set (reg 15) is (lit word 0x08000104) ∷ []) ∷ []) 0x08000108 ∷ [];
      pending = 0;
    }

abbrev both : List Body
both = loop ∷ swi ∷ []

-- their units at a wished size, in one group
abbrev units : ℕ → List Top
units max = trees (emit_c_chunked max both ((0 ∷ 1 ∷ []) ∷ []))

-- the group's function stands in them
there : (max : ℕ) → Memᴰ (function (group 0x08000100) (group_code both)) (units max)
unfolding emit_c_chunked emit_group bodies_of
there max =
    in_part (function (group 0x08000100) (group_code both)) (emit_group both)
    (emit_c_chunked max both ((0 ∷ 1 ∷ []) ∷ []))
    (group_part max (last_unit_end both) both (both ∷ []) unit_head 0 (Memᴰ.head refl))
    (Memᴰ.head refl)

-- the code from the loop's label on
abbrev at_loop : Code
at_loop = nl ⨾ (block_code (map body_key both) loop ⧺ (nl ⨾ labelled (map body_key both) (swi ∷ [])))

to_loop : LabelAt 0x08000100 (group_code both) at_loop
unfolding group_code with_locals labelled
to_loop = later (later (later (later (later (later (later (later (later (later here)))))))))

-- what happens from there to the gate
abbrev owner : Event
owner = reach (Owner.native_of 0x08000100)

abbrev round : List Event
round =
    native_start 0x08000100 0 1 ∷ owner ∷ owner ∷ owner ∷ owner ∷ said (other (v32 x-cz)) true
    ∷ owner ∷ owner ∷ []

-- the gate says yes: the way leaves
leaves : (ts : List Top)
    → Way ts (group_code both) at_loop (true ∷ true ∷ []) (round ++ (said gate true ∷ owner ∷ []))
unfolding block_code outside_rom_bios code_from native_text transfer goto_code
leaves ts =
    w_gap (w_record
    (w_gap (w_plain
    (w_gap (w_gap
    (w_braces
    (w_gap (w_plain
    (w_gap (w_plain (w_gap (w_when (w_gap (w_plain (w_gap (w_gap w_leave))))))))))))))))

-- it says no: the way goes round
goes_on : (ts : List Top) {xs : List Bool} {es : List Event} → Way ts (group_code both) at_loop xs es
    → Way ts (group_code both) at_loop (true ∷ false ∷ xs) (round ++ (said gate false ∷ owner ∷ es))
unfolding block_code outside_rom_bios code_from native_text transfer goto_code
goes_on ts w =
    w_gap
    (w_record
    (w_gap (w_plain
    (w_gap (w_gap
    (w_braces
    (w_gap (w_plain
    (w_gap (w_plain
    (w_gap (w_when
    (w_gap (w_plain (w_gap (w_gap (w_stay (w_gap (w_gap (w_goto to_loop w))))))))))))))))))))

-- from the loop's function: round, and round again up to the gate
abbrev events : List Event
events =
    reach Owner.common ∷ reach Owner.common ∷ reach Owner.common
    ∷ (round ++ (said gate false ∷ owner ∷ (round ++ (said gate true ∷ owner ∷ []))))

pub twice : (max : ℕ)
    → Way (units max) (forwarder 0x08000100 0) (forwarder 0x08000100 0)
    (true ∷ false ∷ true ∷ true ∷ []) events
unfolding group_code with_locals
twice max =
    w_gap
    (w_call (there max)
    (w_gap
    (w_plain
    (w_gap (w_plain
    (w_gap (w_plain
    (w_gap (w_gap
    (w_entry (Memᴰ.head refl) to_loop (goes_on (units max) (leaves (units max)))))))))))))

-- it carries out two instructions, and the one of the loop twice: in a group of several only gates
-- bound that
pub two : (carried events ≡ 2) × (times_carried 0x08000100 0 events ≡ 2)
two = (refl, refl)

-- a label inside an if, or inside braces, is found, and the code from there on goes on after them
pub inside : (o : Owner) (n : Bool) (t : Test) (c : Code)
    → LabelAt 8 (when o n t (label 8 ⨾ end) c) c × LabelAt 8 (braces (label 8 ⨾ end) c) c
inside o n t c = (in_when here, in_braces here)

-- a goto whose function has no such label ends the way
pub lost : (ts : List Top)
    → Way ts (goto Owner.common 8 ⨾ end) (goto Owner.common 8 ⨾ end) (true ∷ [])
    (reach Owner.common ∷ [])
lost ts = w_lost

-- and so does a condition with no answer left: an if's, and a gate's
pub unanswered : (ts : List Top) (b c : Code)
    → Way ts c (when Owner.common true gate b c) [] (reach Owner.common ∷ [])
unanswered ts b c = w_unanswered

pub unsaid : (ts : List Top) (c : Code)
    → Way ts c (ret_if Owner.common gate (lit word 8) ⨾ c) [] (reach Owner.common ∷ [])
unsaid ts c = w_unsaid

-- swi by itself: the interpreter carries out one instruction
abbrev shelling : List Event
shelling =
    reach Owner.common ∷ reach Owner.common ∷ reach Owner.common ∷ reach Owner.common
    ∷ interpreted 0x08000104 0 ∷ []

pub lone : (ts : List Top)
    → Way ts (with_locals (block_code [] swi)) (with_locals (block_code [] swi)) [] shelling
unfolding with_locals block_code outside_rom_bios code_from
lone ts =
    w_gap (w_plain
    (w_gap (w_plain (w_gap (w_plain (w_gap (w_gap (w_plain (w_gap (w_gap w_ret_interp))))))))))

pub one : carried shelling ≡ 1
one = refl

-- a guarded block of one native record
abbrev ram : Body
ram =
    record {
      addr = 0x02000000;
      thumb = false;
      count = 1;
      hash = some 7;
      forms = Form.native (straight [] ((set (reg 0) is (lit word 0) ∷ []) ∷ [])) ∷ [];
      pending = 0;
    }

-- what happens before the guard answers, and what it is asked about: address, length and hash
abbrev asking : List Event
asking = reach Owner.common ∷ reach Owner.common ∷ reach Owner.common ∷ reach Owner.common ∷ []

abbrev asked : Test
asked = guard 0x02000000 4 7

-- its yes leads to the native statement
pub guard_yes : (ts : List Top)
    → Way ts (with_locals (block_code [] ram)) (with_locals (block_code [] ram)) (true ∷ [])
    (asking ++ (said asked true ∷ native_start 0x02000000 0 1 ∷ reach (Owner.native_of 0x02000000)
    ∷ []))
unfolding with_locals block_code outside_rom_bios under_guard code_from native_text
guard_yes ts =
    w_gap (w_plain
    (w_gap (w_plain
    (w_gap (w_plain
    (w_gap (w_gap
    (w_when (w_gap (w_record (w_gap (w_braces (w_gap (w_gap (w_plain stop)))))))))))))))

-- its no to the interpreter, which carries out the block's first instruction
pub guard_no : (ts : List Top)
    → Way ts (with_locals (block_code [] ram)) (with_locals (block_code [] ram)) (false ∷ [])
    (asking ++ (said asked false ∷ reach Owner.common ∷ interpreted 0x02000000 0 ∷ []))
unfolding with_locals block_code outside_rom_bios under_guard code_from
guard_no ts =
    w_gap (w_plain
    (w_gap (w_plain
    (w_gap (w_plain (w_gap (w_gap (w_when (w_gap (w_plain (w_gap w_ret_interp)))))))))))

-- the yes leads through the text of the record
pub yes_through :
    answers_and_records (asking ++ (said asked true ∷ native_start 0x02000000 0 1
    ∷ reach (Owner.native_of 0x02000000) ∷ [])) ≡ body_events ram
unfolding body_events outside_rom_bios form_events
yes_through = refl

-- the no does not, though the interpreter carries out the record
pub no_elsewhere :
    answers_and_records (asking ++ (said asked false ∷ reach Owner.common ∷ interpreted 0x02000000 0
    ∷ [])) ≡ body_events ram → ⊥
unfolding body_events outside_rom_bios form_events
no_elsewhere e = let z : ◌≡◌ {A = ℕ} 0 1 = cc in omega arith

-- nor does it where the first record has a shell, which the interpreter carries out too
abbrev ram_shell : Body
ram_shell =
    record {
      addr = 0x02000000;
      thumb = false;
      count = 1;
      hash = some 7;
      forms = shell false ((set (reg 15) is (lit word 0x02000000) ∷ []) ∷ []) 0x02000004 ∷ [];
      pending = 0;
    }

pub shell_through : body_events ram_shell ≡ said asked true ∷ interpreted 0x02000000 0 ∷ []
unfolding body_events outside_rom_bios form_events
shell_through = refl

pub shell_elsewhere :
    said asked false ∷ interpreted 0x02000000 0 ∷ [] ≡ body_events ram_shell → ⊥
unfolding body_events outside_rom_bios form_events
shell_elsewhere e = let z : ◌≡◌ {A = ℕ} 0 1 = cc in omega arith
