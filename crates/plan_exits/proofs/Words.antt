-- The keys of a block's exits have 32 bits, where the fields of its instructions are in range.
-- Assumes nothing.
use Rattle.std.proofs.Common.{◌≡◌, ℕ, ◌+◌, ◌*◌, ◌%◌, ◌^◌, ◌<◌, Bool, true, false, cond, ◌&&◌, eqb, ◌⊎◌, List, [], ◌∷◌, refl, inl, inr, mod-lt, arith, Option, Some, None}
use mathlib.Core.List.Memᴰ
use mathlib.Core.List.{Memᴰ}
use Rattle.armv4t.specs.declared.Cond.{Cond}
use Rattle.armv4t.specs.declared.Op.{Op}
use Rattle.armv4t.specs.declared.Op.TheVariants.{Alu, Mul, MulLong, Swap, Bx, Branch, ThumbBlHigh}
use Rattle.armv4t.specs.declared.Op.TheVariants.{ThumbBlLow, Mem, BlockMem, Mrs, MsrReg, MsrImm}
use Rattle.armv4t.specs.declared.Op.TheVariants.{Swi, Undefined}
use Rattle.armv4t.specs.Bit0.{set_bit0}
use Rattle.armv4t.specs.Cond.{is_al}
use Rattle.armv4t.specs.Fused.{Fused, fuse, fuse_ops, fuse_low}
use Rattle.armv4t.specs.InRange.{InRange}
use Rattle.armv4t.specs.RegisterList.{is_listed}
use Rattle.file_instrs.specs.declared.decode.TimedInstr.{TimedInstr}
use Rattle.file_blocks.specs.Address.{key_of}
use Rattle.file_blocks.specs.Parse.{Block, AcceptedAs}
use Rattle.file_blocks.proofs.Ranges.{accepted_ranges}
use Rattle.plan_exits.specs.Exits.{branch_exits, op_exits, last_exits, closing_exits}
use Rattle.plan_exits.specs.Exits.{instr_exits, exits}

-- each of some numbers is below 2^32
abbrev Words : List ℕ → Type 0
Words [] = Unit {0}
Words (k ∷ ks) = (k < 4294967296) × Words ks

set_word : (n : ℕ) → n < 4294967296 → set_bit0 n < 4294967296
set_word n h = omega arith

key_word : (addr : ℕ) (thumb : Bool) → addr < 4294967296 → key_of addr thumb < 4294967296
key_word addr true h = set_word addr h
key_word addr false h = h

next_word : (n : ℕ) → n % 2 ^ 32 < 4294967296
next_word n = mod-lt n (omega arith)

branch_words : (c : Cond) (target fall : ℕ) → target < 4294967296 → fall < 4294967296
    → Words (branch_exits c target fall)
branch_words c target fall a b = (a, go (is_al c))
  where
    go : (al : Bool) → Words (cond al [] (fall ∷ []))
    go true = tt
    go false = (b, tt)

unless_words : (none : Bool) (fall : ℕ) → fall < 4294967296 → Words (cond none [] (fall ∷ []))
unless_words true fall h = tt
unless_words false fall h = (h, tt)

op_words : (op : Op) (c : Cond) (thumb : Bool) (fall : ℕ) → InRange op → fall < 4294967296
    → Words (op_exits op c thumb fall)
op_words (Alu op s rd rn op2) c thumb fall r h = unless_words (eqb rd 15) fall h
op_words (Mul acc s rd rn rs rm) c thumb fall r h = (h, tt)
op_words (MulLong signed acc s rd-hi rd-lo rs rm) c thumb fall r h = (h, tt)
op_words (Swap byte rd rm rn) c thumb fall r h = (h, tt)
op_words (Bx rm) c thumb fall r h = tt
op_words (Branch link target) c thumb fall r h =
    branch_words c (key_of target thumb) fall (key_word target thumb r.0) h
op_words (ThumbBlHigh lr) c thumb fall r h = (h, tt)
op_words (ThumbBlLow off) c thumb fall r h = tt
op_words (Mem load width signed rd rn offset pre up writeback) c thumb fall r h =
    unless_words (load && eqb rd 15) fall h
op_words (BlockMem load rn rlist pre up s_bit writeback) c thumb fall r h =
    unless_words (load && is_listed rlist 15) fall h
op_words (Mrs spsr rd) c thumb fall r h = (h, tt)
op_words (MsrReg spsr fields rm) c thumb fall r h = (h, tt)
op_words (MsrImm spsr fields value) c thumb fall r h = (h, tt)
op_words (Swi imm) c thumb fall r h = tt
op_words (Undefined raw) c thumb fall r h = tt

-- the target of a pair is a word
abbrev PairWord : Fused → Type 0
PairWord (Some (target, ret)) = target < 4294967296
PairWord None = Unit {0}

low_word : (lr : ℕ) (op : Op) (addr : ℕ) → PairWord (fuse_low lr op addr)
low_word lr (Alu _ _ _ _ _) addr = tt
low_word lr (Mul _ _ _ _ _ _) addr = tt
low_word lr (MulLong _ _ _ _ _ _ _) addr = tt
low_word lr (Swap _ _ _ _) addr = tt
low_word lr (Bx _) addr = tt
low_word lr (Branch _ _) addr = tt
low_word lr (ThumbBlHigh _) addr = tt
low_word lr (ThumbBlLow off) addr = next_word (lr + off * 2)
low_word lr (Mem _ _ _ _ _ _ _ _ _) addr = tt
low_word lr (BlockMem _ _ _ _ _ _ _) addr = tt
low_word lr (Mrs _ _) addr = tt
low_word lr (MsrReg _ _ _) addr = tt
low_word lr (MsrImm _ _ _) addr = tt
low_word lr (Swi _) addr = tt
low_word lr (Undefined _) addr = tt

high_word : (high low : Op) (addr : ℕ) → PairWord (fuse_ops high low addr)
high_word (Alu _ _ _ _ _) low addr = tt
high_word (Mul _ _ _ _ _ _) low addr = tt
high_word (MulLong _ _ _ _ _ _ _) low addr = tt
high_word (Swap _ _ _ _) low addr = tt
high_word (Bx _) low addr = tt
high_word (Branch _ _) low addr = tt
high_word (ThumbBlHigh lr) low addr = low_word lr low addr
high_word (ThumbBlLow _) low addr = tt
high_word (Mem _ _ _ _ _ _ _ _ _) low addr = tt
high_word (BlockMem _ _ _ _ _ _ _) low addr = tt
high_word (Mrs _ _) low addr = tt
high_word (MsrReg _ _ _) low addr = tt
high_word (MsrImm _ _ _) low addr = tt
high_word (Swi _) low addr = tt
high_word (Undefined _) low addr = tt

closing_words : (fused : Fused) (alone : List ℕ) → PairWord fused → Words alone
    → Words (closing_exits fused alone)
closing_words (Some (target, ret)) alone pair h = (set_word target pair, tt)
closing_words None alone pair h = h

-- the fields of some instructions are in range
abbrev Ranges : List TimedInstr → Type 0
Ranges is = (x : TimedInstr) → Memᴰ x is → InRange x.instr.op

last_words : (thumb : Bool) (x : TimedInstr) → InRange x.instr.op
    → Words (last_exits thumb x.instr)
last_words thumb x r = op_words x.instr.op _ thumb _ r (key_word _ thumb (next_word _))

instr_words : (thumb : Bool) (is : List TimedInstr) → Ranges is → Words (instr_exits thumb is)
unfolding instr_exits fuse
instr_words thumb [] r = tt
instr_words thumb (x ∷ []) r = last_words thumb x (r x (Memᴰ.head refl))
instr_words thumb (x ∷ y ∷ []) r =
    closing_words (fuse x.instr y.instr) _
    (high_word x.instr.op y.instr.op y.instr.addr)
    (last_words thumb y (r y (Memᴰ.tail (Memᴰ.head refl))))
instr_words thumb (x ∷ y ∷ z ∷ rest) r =
    instr_words thumb (y ∷ z ∷ rest) (λ v m. r v (Memᴰ.tail m))

one_word : (ks : List ℕ) → Words ks → (k : ℕ) → Memᴰ k ks → k < 2 ^ 32
one_word [] w k m = absurd (Memᴰ.not-nil m)
one_word (j ∷ ks) w k m = go (one_word ks w.1 k) (Memᴰ.cases_cons m)
  where
    go : (Memᴰ k ks → k < 2 ^ 32) → (k ≡ j) ⊎ Memᴰ k ks → k < 2 ^ 32
    go rest (inl e) = omega (arith, w.0)
    go rest (inr n) = rest n

-- the exits of a block of an accepted file
pub exits_words : (f : List ℕ) (bs : List Block) → AcceptedAs f bs → (b : Block) → Memᴰ b bs
    → (k : ℕ) → Memᴰ k (exits b) → k < 2 ^ 32
unfolding exits
exits_words f bs ok b m =
    one_word (exits b) (instr_words b.thumb b.instrs (accepted_ranges f bs ok b m))
