-- Examples: the reasons of records that have one, several or none, what is said of short blocks,
-- and sentences, computed.
use Rattle.std.specs.Prelude.{ℕ, ◌≡◌, refl, Bool, true, false, List, [], ◌∷◌, map, replicate}
use Rattle.std.proofs.Math.Option.{Option, none, some}
use Rattle.base_lists.specs.Lists.{is_some}
use Rattle.base_text.specs.Digits.{last_digits}
use Rattle.base_text.specs.Doc.{text, print, hexadecimal8}
use Rattle.armv4t.specs.declared.AluOp.TheVariants.{Mov, Cmp}
use Rattle.armv4t.specs.declared.Cond.{Cond}
use Rattle.armv4t.specs.declared.Cond.TheVariants.{Eq, Al, Nv}
use Rattle.armv4t.specs.declared.MemOffset.{MemOffset}
use Rattle.armv4t.specs.declared.MemWidth.TheVariants.{Word}
use Rattle.armv4t.specs.declared.Op.{Op}
use Rattle.armv4t.specs.declared.Op.TheVariants.{Alu, Mul, MulLong, Swap, Bx, Branch, ThumbBlHigh}
use Rattle.armv4t.specs.declared.Op.TheVariants.{ThumbBlLow, Mem, BlockMem, Mrs, MsrReg, MsrImm}
use Rattle.armv4t.specs.declared.Op.TheVariants.{Swi, Undefined}
use Rattle.armv4t.specs.declared.Operand2.{Operand2}
use Rattle.armv4t.specs.declared.Shift.{Shift}
use Rattle.armv4t.specs.declared.ShiftKind.TheVariants.{Lsl, Lsr, Ror}
use Rattle.armv4t.specs.Fused.{fuse}
use Rattle.file_instrs.specs.declared.decode.TimedInstr.{TimedInstr}
use Rattle.file_blocks.specs.Address.{outside_rom_bios}
use Rattle.file_blocks.specs.Parse.{Block}
use Rattle.lower_reasons.specs.declared.types.Kind.{Kind}
use Rattle.lower_reasons.specs.declared.types.Reason.{Reason}
use Rattle.lower_reasons.specs.declared.types.Reason.TheVariants.{UnpairedHalf}
use Rattle.lower_reasons.specs.declared.types.Reason.TheVariants.{ConditionalExit, BiosExit}
use Rattle.lower_reasons.specs.declared.types.Reason.TheVariants.{PcResult, RegisterShift}
use Rattle.lower_reasons.specs.declared.types.Reason.TheVariants.{ExtendOffset}
use Rattle.lower_reasons.specs.declared.types.Reason.TheVariants.{UserRegisters, EmptyList}
use Rattle.lower_reasons.specs.declared.types.Reason.TheVariants.{PcBase, PcLoaded}
use Rattle.lower_reasons.specs.declared.types.Reason.TheVariants.{NoNativeForm}
use Rattle.lower_reasons.specs.Lines.{Line, lines_of, lines_from, number_or}
use Rattle.lower_reasons.specs.Reasons.{kind_of, reason_by, reasons}
use Rattle.lower_reasons.specs.Said.{Said, drops_rest_by, said_each, said_in, said_in_all}
use Rattle.lower_reasons.specs.Sentence.{kind_name, reason_words, sentence}

-- operations by the fields that count
abbrev alu : ℕ → Operand2 → Op
alu rd op2 = Alu Mov false rd 0 op2

abbrev mem : Bool → ℕ → MemOffset → Op
mem load rd offset = Mem load Word false rd 0 offset true true false

abbrev value : Operand2
value = Operand2.Imm 0 0

abbrev shifted : Shift → MemOffset
shifted s = MemOffset.Reg 1 s

-- a pop of PC with a base, and other loads of PC: without writeback, before, and downwards
abbrev pop : ℕ → Op
pop rn = BlockMem true rn 0x8000 false true false true

abbrev loads_pc3 : List Op
loads_pc3 =
    BlockMem true 13 0x8000 false true false false
    ∷ BlockMem true 13 0x8000 true true false true
    ∷ BlockMem true 13 0x8000 false false false true
    ∷ []

-- the reasons of operations under a condition, in a region
abbrev why : ℕ → Cond → List Op → List (Option Reason)
why region c = map (reason_by region c)

-- each reason where it alone holds
halves_alone : why 8 Al (ThumbBlHigh 0 ∷ ThumbBlLow 0 ∷ []) ≡ replicate 2 (some UnpairedHalf)
unfolding reason_by
halves_alone = refl

exits_alone : (reason_by 8 Eq (Bx 0) ∷ reason_by 0 Al (Bx 0) ∷ [])
    ≡ some ConditionalExit ∷ some BiosExit ∷ []
unfolding reason_by
exits_alone = refl

-- rd 15: of an Alu, of a compare, of a Mul, loaded and stored
results_alone : why 8 Al
    (alu 15 value ∷ Alu Cmp true 15 0 value ∷ Mul false false 15 0 0 0
    ∷ mem true 15 (MemOffset.Imm 0) ∷ mem false 15 (MemOffset.Imm 0) ∷ [])
    ≡ replicate 5 (some PcResult)
unfolding reason_by
results_alone = refl

shifts_alone : why 8 Al
    (alu 0 (Operand2.Reg 1 (Shift.Reg Lsl 2)) ∷ mem true 0 (shifted (Shift.Reg Lsl 2))
    ∷ mem true 0 (shifted (Shift.Imm Ror 0)) ∷ [])
    ≡ some RegisterShift ∷ some RegisterShift ∷ some ExtendOffset ∷ []
unfolding reason_by
shifts_alone = refl

lists_alone : why 8 Al
    (BlockMem false 13 1 false true true false ∷ BlockMem false 13 0 false true false false
    ∷ BlockMem false 15 1 false true false false ∷ loads_pc3)
    ≡ some UserRegisters ∷ some EmptyList ∷ some PcBase ∷ replicate 3 (some PcLoaded)
unfolding reason_by
lists_alone = refl

formless_alone : why 8 Al
    (Swap false 15 0 0 ∷ Mrs false 15 ∷ MsrReg false 0 15 ∷ MsrImm false 0 0 ∷ Swi 0
    ∷ Undefined 0 ∷ [])
    ≡ replicate 6 (some NoNativeForm)
unfolding reason_by
formless_alone = refl

-- where two hold the first counts: of exits
two_exits : (reason_by 0 Eq (Bx 0) ∷ reason_by 8 Eq (pop 13) ∷ reason_by 0 Al (pop 13) ∷ [])
    ≡ some ConditionalExit ∷ some ConditionalExit ∷ some BiosExit ∷ []
unfolding reason_by
two_exits = refl

-- of rd and a shift
two_shifts : why 8 Al
    (alu 15 (Operand2.Reg 1 (Shift.Reg Lsl 2)) ∷ mem false 15 (shifted (Shift.Reg Lsl 2))
    ∷ mem true 15 (shifted (Shift.Imm Ror 0)) ∷ [])
    ≡ replicate 3 (some PcResult)
unfolding reason_by
two_shifts = refl

-- of a list: user registers before all, an empty list before PC as base, and that before PC loaded
two_of_lists : why 8 Al
    (BlockMem true 13 0 false true true false ∷ BlockMem true 15 1 false true true false
    ∷ BlockMem true 13 0x8000 false true true true ∷ BlockMem true 15 0 false true false false
    ∷ BlockMem true 15 0x8000 false true false false ∷ [])
    ≡ some UserRegisters ∷ some UserRegisters ∷ some UserRegisters ∷ some EmptyList ∷ some PcBase
    ∷ []
unfolding reason_by
two_of_lists = refl

-- none: native code
natives : why 8 Al
    (MulLong false false false 15 15 0 0 ∷ alu 0 (Operand2.Reg 1 (Shift.Imm Ror 0))
    ∷ mem true 0 (shifted (Shift.Imm Ror 1)) ∷ mem true 0 (shifted (Shift.Imm Lsr 0))
    ∷ BlockMem false 13 0x8000 true false false true ∷ pop 13 ∷ Bx 0 ∷ Branch false 0 ∷ [])
    ≡ replicate 8 none
unfolding reason_by
natives = refl

-- a Branch under any condition; a Bx and a pop under condition 15; a pop through PC is no exit
conditions : (reason_by 8 Eq (Branch true 0) ∷ reason_by 8 Nv (Branch true 0) ∷ reason_by 8 Nv (Bx 0)
    ∷ reason_by 8 Nv (pop 13) ∷ reason_by 8 Eq (pop 15) ∷ [])
    ≡ none ∷ none ∷ some ConditionalExit ∷ some ConditionalExit ∷ some PcBase ∷ []
unfolding reason_by
conditions = refl

-- what drops the rest, and what does not
dropping : (drops_rest_by 8 Al (Branch false 0) ∷ drops_rest_by 8 Al (Bx 0) ∷ drops_rest_by 8 Al (pop 13)
    ∷ drops_rest_by 8 Eq (Branch false 0) ∷ drops_rest_by 8 Nv (Branch false 0)
    ∷ drops_rest_by 0 Al (Bx 0) ∷ drops_rest_by 8 Al (Swi 0) ∷ [])
    ≡ true ∷ true ∷ true ∷ false ∷ false ∷ false ∷ false ∷ []
unfolding drops_rest_by
dropping = refl

-- instructions that stand after one another from an address on
abbrev timed : ℕ → Cond → Op → TimedInstr
timed addr c op =
    record { instr = record { addr = addr; cond = c; op = op; thumb = true }; cost = 0 }

-- the reason of a Swi at an address
abbrev swi_at : ℕ → Option Said
swi_at a = some (record { addr = a; kind = Kind.Swi; reason = NoNativeForm })

-- nothing is said after a Branch under Al, and of a pair and what stands after it
dropped : said_each 8 (timed 0 Al (Swi 0) ∷ timed 2 Al (Branch false 0) ∷ timed 4 Al (Swi 0) ∷ [])
    ≡ swi_at 0 ∷ none ∷ none ∷ []
unfolding said_each reason_by drops_rest_by fuse
dropped = refl

paired : said_each 8
    (timed 0 Eq (ThumbBlHigh 0) ∷ timed 2 Al (ThumbBlLow 0) ∷ timed 4 Al (Swi 0) ∷ [])
    ≡ none ∷ none ∷ none ∷ []
unfolding said_each reason_by drops_rest_by fuse
paired = refl

-- halves that make no pair, and a Branch under a condition, drop nothing
unpaired : map is_some
    (said_each 8
    (timed 0 Al (ThumbBlLow 0) ∷ timed 2 Al (ThumbBlHigh 0) ∷ timed 4 Eq (Branch false 0)
    ∷ timed 6 Al (Swi 0) ∷ timed 8 Al (ThumbBlHigh 0) ∷ []))
    ≡ true ∷ true ∷ false ∷ true ∷ true ∷ []
unfolding said_each reason_by drops_rest_by fuse
unpaired = refl

-- a block at an address, with its bytes or without, and one Swi
abbrev swi_block : ℕ → Option (List ℕ) → Block
swi_block a code =
    record { addr = a; thumb = true; code = code; instrs = timed a Al (Swi 0) ∷ [] }

-- without bytes nothing is said outside regions 0 and 8, which are pages modulo 16
regions : map (λ (b : Block). map is_some (said_in b))
    (swi_block 0x0300_0000 none ∷ swi_block 0x0300_0000 (some []) ∷ swi_block 0x1300_0000 none
    ∷ swi_block 0x1000_0000 none ∷ swi_block 0x1800_0000 none ∷ [])
    ≡ (false ∷ []) ∷ (true ∷ []) ∷ (false ∷ []) ∷ (true ∷ []) ∷ (true ∷ []) ∷ []
unfolding said_in said_each reason_by drops_rest_by outside_rom_bios
regions = refl

-- the lines of three blocks, of which the second has none, from the second instruction on
lines_from_1 : map (λ (l : Line). l.number)
    (lines_from 1
    (swi_block 0x0800_0000 none ∷ swi_block 0x0300_0000 none ∷ swi_block 0x0800_0002 none ∷ []))
    ≡ 2 ∷ []
unfolding lines_of said_in_all said_in said_each reason_by drops_rest_by outside_rom_bios
lines_from_1 = refl

no_number : number_or 7 [] ≡ 7
no_number = refl

-- sentences, the longest words among them
sentence_bx :
    print (sentence (record { addr = 0x0800_0010; kind = Kind.Bx; reason = ConditionalExit }))
    ≡ print (text "08000010 Bx conditional exit")
unfolding print hexadecimal8 last_digits
sentence_bx = refl

sentence_mem :
    print (sentence (record { addr = 0xffff_abcd; kind = Kind.Mem; reason = ExtendOffset }))
    ≡ print (text "ffffabcd Mem rotate with extend in an offset")
unfolding print hexadecimal8 last_digits
sentence_mem = refl

-- the kinds of all operations, by their names
names : map (λ (op : Op). kind_name (kind_of op))
    (alu 0 value ∷ Mul false false 0 0 0 0 ∷ MulLong false false false 0 0 0 0 ∷ Swap false 0 0 0
    ∷ Bx 0 ∷ Branch false 0 ∷ ThumbBlHigh 0 ∷ ThumbBlLow 0 ∷ mem true 0 (MemOffset.Imm 0) ∷ pop 0
    ∷ Mrs false 0 ∷ MsrReg false 0 0 ∷ MsrImm false 0 0 ∷ Swi 0 ∷ Undefined 0 ∷ [])
    ≡ "Alu" ∷ "Mul" ∷ "MulLong" ∷ "Swap" ∷ "Bx" ∷ "Branch" ∷ "ThumbBlHigh" ∷ "ThumbBlLow" ∷ "Mem"
    ∷ "BlockMem" ∷ "Mrs" ∷ "MsrReg" ∷ "MsrImm" ∷ "Swi" ∷ "Undefined" ∷ []
names = refl

-- the reasons in their order, by their words
words : map reason_words reasons
    ≡ "unpaired half" ∷ "conditional exit" ∷ "BIOS exit" ∷ "PC as result or stored register"
    ∷ "register-given shift" ∷ "rotate with extend in an offset" ∷ "user registers"
    ∷ "empty list" ∷ "PC as base" ∷ "PC in a loaded list" ∷ "no native form" ∷ []
words = refl
