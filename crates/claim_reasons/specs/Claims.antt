-- To be believed: what is claimed of the sentences of an accepted file (document 02, request 4): an
-- instruction has one exactly if the block's text prints its shell, its reason is the first that
-- holds, and a reader gets address, kind and reason back from it.
use Rattle.std.specs.Prelude.{ℕ, ◌+◌, ◌≤◌, ◌<◌, ◌^◌, ◌≡◌, Bool, true, not, ◌&&◌, eqb, length}
use mathlib.Core.List.{List, ◌∷◌, ◌++◌, Memᴰ}
use Rattle.std.proofs.Math.Option.{some}
use Rattle.std.proofs.Math.ListN.{get_elem?}
use Rattle.base_lists.specs.Lists.{is_some, IsFirst}
use Rattle.base_text.specs.Doc.{print}
use Rattle.base_words.specs.Word.{one_if}
use Rattle.file_records.specs.Bytes.{byte_at}
use Rattle.file_instrs.specs.declared.decode.TimedInstr.{TimedInstr}
use Rattle.file_instrs.specs.Decode.{op_at}
use Rattle.file_blocks.specs.Parse.{Block, block_key, AcceptedAs, instr_total}
use Rattle.file_blocks.specs.Address.{region, outside_rom_bios}
use Rattle.lower_forms.specs.Forms.{is_native}
use Rattle.lower_forms.specs.Block.{emit_instr, body_of}
use Rattle.lower_units.specs.Block.{code_from, block_code}
use Rattle.lower_reasons.specs.Reasons.{kind_of, kind_number, reasons, holds, reason_of}
use Rattle.lower_reasons.specs.Said.{Said, said_in, said_at, said_in_all}
use Rattle.lower_reasons.specs.Sentence.{sentence}
use Rattle.claim_reasons.specs.InterpCalls.{interp_calls}
use Rattle.claim_reasons.specs.Reader.{read_sentence}

-- what is said of the instruction with index i of a block is its address and its kind, and the
-- first reason that holds of it
pub record Explains (b : Block) (i : ℕ) (s : Said) : Type 0 where
  pub x : TimedInstr
  pub is : get_elem? b.instrs i ≡ some x
  pub addr : s.addr ≡ x.instr.addr
  pub kind : s.kind ≡ kind_of x.instr.op
  pub reason : IsFirst (holds (region b.addr) x.instr.cond x.instr.op) reasons
      s.reason

-- what is claimed of a block's sentences; its text is that in a group with the keys ks, whatever
-- they are, and by any multiplier of the guards' hash
pub record SaidOfShells (b : Block) : Type 0 where
  -- there is one place for each instruction
  pub each : length (said_in b) ≡ length b.instrs
  -- the text of the block calls the interpreter once for each instruction of which something is
  -- said and, where the block is outside BIOS and ROM, once in the block's place, with the mark of
  -- its first instruction; there is no other call
  pub text : (ks : List ℕ) (multiplier key i : ℕ)
      → interp_calls key i (block_code ks (body_of multiplier b))
      ≡ one_if (eqb key (block_key b) && is_some (said_at b i))
      + one_if (eqb key (block_key b) && (outside_rom_bios b.addr && eqb i 0))
  -- the former stand in the code of the block's instructions, which is all of the text in BIOS and
  -- ROM, and else stands after the guard, where the block has its bytes
  pub shells : (outside_rom_bios b.addr ≡ true → is_some b.code ≡ true)
      → (ks : List ℕ) (multiplier key i : ℕ)
      → interp_calls key i (code_from ks (body_of multiplier b) 0 (body_of multiplier b).forms)
      ≡ one_if (eqb key (block_key b) && is_some (said_at b i))
  -- what is said is so
  pub so : (i : ℕ) (s : Said) → said_at b i ≡ some s → Explains b i s
  -- its address has 32 bits, so that `read` holds of it
  pub small : (i : ℕ) (s : Said) → said_at b i ≡ some s → s.addr < 2 ^ 32

-- what is claimed of the sentences of a file
pub record ReasonClaims (f : List ℕ) : Type 0 where
  -- of each of its blocks, where it is accepted
  pub blocks : (bs : List Block) → AcceptedAs f bs → (b : Block) → Memᴰ b bs → SaidOfShells b
  -- the instructions of a block are numbered after those of the blocks before it
  pub numbers : (before : List Block) (b : Block) (after : List Block) (i : ℕ)
      → i < length b.instrs
      → get_elem? (said_in_all (before ++ (b ∷ after))) (instr_total before + i) ≡ some (said_at b i)
  -- the kind of an instruction is that of its record
  pub kinds : (at : ℕ) → byte_at f at ≤ 14 → kind_number (kind_of (op_at f at)) ≡ byte_at f at
  -- an instruction that is not fused goes to a shell exactly if there is a reason
  pub reasoned : (thumb : Bool) (region cycles : ℕ) (x : TimedInstr)
      → is_native (emit_instr thumb region cycles x).0 ≡ not (is_some (reason_of region x.instr))
  -- no sentence is empty, so that length 0 means that there is none
  pub some_bytes : (s : Said) → 0 < length (print (sentence s))
  -- the reader gets address, kind and reason back
  pub read : (s : Said) → s.addr < 2 ^ 32 → read_sentence (print (sentence s)) ≡ some s
  -- so that the same sentence never says two things
  pub once : (s t : Said) → s.addr < 2 ^ 32 → t.addr < 2 ^ 32
      → print (sentence s) ≡ print (sentence t) → s ≡ t
