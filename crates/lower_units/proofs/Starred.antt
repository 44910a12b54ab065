-- The starred cases of document 01, as one list under one theorem.
-- Assumes nothing.
use Prim.Native.Nat.{ℕ, ◌-◌}
use Prim.Native.String.{String}
use mathlib.Core.Path.{◌≡◌, refl}
use mathlib.Core.Bool.{Bool, true, false}
use mathlib.Core.List.{List, [], ◌∷◌, ◌++◌, map, Memᴰ}
use mathlib.Core.Option.{none}
use lib.ListN.{length, replicate}
use Rattle.armv4t.specs.declared.Cond.{Cond}
use Rattle.armv4t.specs.declared.Cond.TheVariants.{Eq, Al}
use Rattle.armv4t.specs.declared.Op.{Op}
use Rattle.armv4t.specs.declared.Op.TheVariants.{Bx, Branch, ThumbBlHigh, ThumbBlLow, Swi}
use Rattle.armv4t.specs.Fused.{fuse}
use Rattle.file_instrs.specs.declared.decode.TimedInstr.{TimedInstr}
use Rattle.file_blocks.specs.Parse.{Block}
use Rattle.file_keys.specs.Order.{insert, sort_by_key}
use Rattle.plan_groups.specs.Limit.{part_limit}
use Rattle.plan_exits.specs.Exits.{instr_exits, exits}
use Rattle.base_forest.specs.Roots.{follow}
use Rattle.base_text.specs.Digits.{numeral, last_digits}
use Rattle.base_text.specs.Doc.{text, decimal, hexadecimal, hexadecimal8, hexadecimal16, print}
use Rattle.c_tree.specs.Print.{code_text}
use Rattle.base_hash.specs.Fnv.{hash_multiplier}
use Rattle.lower_forms.specs.Block.{emit_instr, emit_instrs, body_of}
use Rattle.lower_forms.specs.InlineBody.{inline_body}
use Rattle.lower_units.specs.Block.{goto_code, transfer, closing, native_text, code_from}
use Rattle.lower_units.specs.Block.{under_guard, block_code}
use Rattle.file_blocks.specs.Address.{outside_rom_bios}
use Rattle.lower_units.specs.Units.{with_locals, emit_block, emit_group, last_unit_end, text_of}
use Rattle.lower_units.specs.Units.{cut, bodies_of, emit_c_chunked, units_by, units as fileUnits}
use Rattle.plan_search.specs.Target.{target}
use Rattle.plan_groups.specs.Plan.{join_exits, join_blocks, parents, with_root}
use Rattle.plan_groups.specs.Plan.{parts, groups_from, groups, rows_from, plan}

-- an instruction of one cycle
timed : ℕ → Bool → Cond → Op → TimedInstr
timed addr thumb k op =
    record { instr = record { addr = addr; cond = k; op = op; thumb = thumb }; cost = 1 }

-- an ARM block at 0x08000010 of one instruction
one : Cond → Op → Block
one k op =
    record {
      addr = 0x0800_0010;
      thumb = false;
      code = none;
      instrs = timed 0x0800_0010 false k op ∷ [];
    }

-- a Thumb block of the two halves of a BL
pair : ℕ → ℕ → Block
pair lr off =
    record {
      addr = 0x0800_0100;
      thumb = true;
      code = none;
      instrs =
          timed 0x0800_0100 true Al (ThumbBlHigh lr) ∷ timed 0x0800_0102 true Al (ThumbBlLow off)
          ∷ [];
    }

-- an ARM block of n Swi and a branch
long : ℕ → ℕ → ℕ → Block
long addr n target =
    record {
      addr = addr;
      thumb = false;
      code = none;
      instrs =
          replicate n (timed addr false Al (Swi 0))
          ++ (timed addr false Al (Branch false target) ∷ []);
    }

-- an ARM block of one instruction
short : Block
short =
    record {
      addr = 0x0801_0000;
      thumb = false;
      code = none;
      instrs = timed 0x0801_0000 false Al (Bx 14) ∷ [];
    }

-- a block of n instructions, and the short one that it branches to
two : ℕ → List Block
two n = long 0x0800_0000 (n - 1) 0x0801_0000 ∷ short ∷ []

-- a Swi, which becomes a shell
swi : ℕ → TimedInstr
swi addr = timed addr false Al (Swi 0)

-- a block at 0x08000100 with a branch to an address in its last instruction
from : List TimedInstr → ℕ → ℕ → Block
from before addr target =
    record {
      addr = 0x0800_0100;
      thumb = false;
      code = none;
      instrs = before ++ (timed addr false Al (Branch false target) ∷ []);
    }

-- a block that shares its group with none
lone : ℕ → Block
lone addr =
    record { addr = addr; thumb = false; code = none; instrs = timed addr false Al (Bx 14) ∷ [] }

pub data Case : Type 0 where
  -- a block and its exits
  exit : Block → List ℕ → Case
  -- two blocks of one component, the second of one instruction, by the number of instructions of
  -- the first; the rows of their plan
  part : ℕ → List ℕ → Case
  -- the text of a block at 0x08000100 in a group with one at 0x08000104
  goto : Block → String → Case
  -- how many units some blocks have at the wished size 0
  units : List Block → ℕ → Case

pub cases : List Case
cases =
    exit (one Eq (Branch false 0x0800_0040)) (0x0800_0040 ∷ 0x0800_0014 ∷ [])
    ∷ exit (one Al (Branch false 0x0800_0040)) (0x0800_0040 ∷ [])
    ∷ exit (one Eq (Bx 14)) []
    ∷ exit (one Al (Swi 0)) []
    ∷ exit (pair 0x0800_0104 3) (0x0800_010b ∷ [])
    ∷ goto (from [] 0x0800_0100 0x0800_0100)
    "    a->tick(m, 1u);\n    c[15] = 0x08000100u;\n    if (a->chain_gate(m)) return 0x08000100u;\n    goto L_08000100_a;\n"
    ∷ goto (from (swi 0x0800_0100 ∷ swi 0x0800_0104 ∷ []) 0x0800_0108 0x0800_0104)
    "    c[15] = 0x08000100u;\n    pc = a->interp_one(m); if (pc != 0x08000104u) return pc;\n    c[15] = 0x08000104u;\n    pc = a->interp_one(m); if (pc != 0x08000108u) return pc;\n    a->tick(m, 1u);\n    c[15] = 0x08000104u;\n    goto L_08000104_a;\n"
    ∷ part 8191 (0 ∷ 0 ∷ 0 ∷ 1 ∷ [])
    ∷ part 8192 (0 ∷ 0 ∷ 1 ∷ 1 ∷ [])
    ∷ units [] 1
    ∷ units (lone 0x0800_0000 ∷ lone 0x0800_0004 ∷ []) 3
    ∷ []

-- what the definitions give for a case
pub defined : Case → List ℕ
defined (exit b keys) = exits b
defined (part n rows) = plan part_limit (two n)
defined (goto b s) =
    print (code_text (block_code (0x0800_0100 ∷ 0x0800_0104 ∷ []) (body_of hash_multiplier b)))
defined (units bs n) = length (fileUnits hash_multiplier part_limit 0 bs) ∷ []

-- what document 01 says of a case
pub stated : Case → List ℕ
stated (exit b keys) = keys
stated (part n rows) = rows
stated (goto b s) = print (text s)
stated (units bs n) = n ∷ []

-- what two functions agree on along a list they agree on at each of its members
each : {A B : Type 0} (g h : A → B) {x : A} {xs : List A} → Memᴰ x xs → map g xs ≡ map h xs
    → g x ≡ h x
each g h (Memᴰ.head same) e = cc
each g h (Memᴰ.tail m) e = each g h m (cc)

-- each starred case holds
pub starred : (c : Case) → Memᴰ c cases → defined c ≡ stated c
unfolding exits instr_exits fuse cases one pair long short two timed swi from lone defined stated
    body_of emit_instrs emit_instr inline_body block_code outside_rom_bios under_guard code_from native_text
    transfer goto_code closing units_by emit_c_chunked cut bodies_of last_unit_end text_of emit_group
    emit_block
    with_locals print decimal numeral hexadecimal hexadecimal8 hexadecimal16 last_digits plan rows_from
    groups groups_from parts sort_by_key insert with_root parents join_blocks join_exits target follow
starred c m = each defined stated m refl
