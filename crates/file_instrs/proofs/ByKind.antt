-- What the records of each kind say, by kind as by number. Assumes nothing.
use Rattle.std.proofs.Common.{◌≡◌, ℕ, zero, suc, ◌+◌, ◌≤◌, true, false, eqb, ltb, List, get_or, refl, ap, ◌∙◌, arith}
use borrow.Author.Tests.{ne_eqb, ltb-true}
use Rattle.armv4t.specs.declared.Op.{Op}
use Rattle.file_records.specs.Bytes.{byte_at, half_at, word_at}
use Rattle.file_instrs.specs.declared.kind.Kind.{Kind}
use Rattle.file_instrs.specs.Kind.{kind_of}
use Rattle.file_instrs.specs.Decode.{flag_at, alu_at, mul_at, mul_long_at, mem_at, block_mem_at}
use Rattle.file_instrs.specs.Decode.{free_op, ops_at, op_at}

-- the operation of the record at an offset, if it is of a kind
abbrev pub op_of : List ℕ → ℕ → Kind → Op
op_of f at Kind.Alu = alu_at f at
op_of f at Kind.Mul = mul_at f at
op_of f at Kind.MulLong = mul_long_at f at
op_of f at Kind.Swap = Op.Swap false 0 0 0
op_of f at Kind.Bx = Op.Bx (byte_at f (at + 4))
op_of f at Kind.Branch = Op.Branch (flag_at f (at + 4)) (word_at f (at + 12))
op_of f at Kind.ThumbBlHigh = Op.ThumbBlHigh (word_at f (at + 12))
op_of f at Kind.ThumbBlLow = Op.ThumbBlLow (half_at f (at + 12))
op_of f at Kind.Mem = mem_at f at
op_of f at Kind.BlockMem = block_mem_at f at
op_of f at Kind.Mrs = Op.Mrs false 0
op_of f at Kind.MsrReg = Op.MsrReg false 0 0
op_of f at Kind.MsrImm = Op.MsrImm false 0 0
op_of f at Kind.Swi = Op.Swi 0
op_of f at Kind.Undefined = Op.Undefined 0

-- a number from 14 on is none below
past : {n : ℕ} → 14 ≤ n → (k : ℕ) → ltb k 14 ≡ true → eqb n k ≡ false
past {n} h k l = ne_eqb n k (λ (e : n ≡ k). absurd (omega (arith, ltb-true k 14 l)))

-- by number it is the same
by_number : (f : List ℕ) (at n : ℕ) → op_of f at (kind_of n) ≡ get_or (ops_at f at) n (free_op n)
unfolding free_op
by_number f at zero = refl
by_number f at (suc zero) = refl
by_number f at (suc (suc zero)) = refl
by_number f at (suc (suc (suc zero))) = refl
by_number f at (suc (suc (suc (suc zero)))) = refl
by_number f at (suc (suc (suc (suc (suc zero))))) = refl
by_number f at (suc (suc (suc (suc (suc (suc zero)))))) = refl
by_number f at (suc (suc (suc (suc (suc (suc (suc zero))))))) = refl
by_number f at (suc (suc (suc (suc (suc (suc (suc (suc zero)))))))) = refl
by_number f at (suc (suc (suc (suc (suc (suc (suc (suc (suc zero))))))))) = refl
by_number f at (suc (suc (suc (suc (suc (suc (suc (suc (suc (suc zero)))))))))) = refl
by_number f at (suc (suc (suc (suc (suc (suc (suc (suc (suc (suc (suc zero))))))))))) = refl
by_number f at (suc (suc (suc (suc (suc (suc (suc (suc (suc (suc (suc (suc zero)))))))))))) = refl
by_number f at (suc (suc (suc (suc (suc (suc (suc (suc (suc (suc (suc (suc (suc zero))))))))))))) = refl
by_number f at (suc (suc (suc (suc (suc (suc (suc (suc (suc (suc (suc (suc (suc (suc n)))))))))))))) =
    let far : 14
    ≤ (suc (suc (suc (suc (suc (suc (suc (suc (suc (suc (suc (suc (suc (suc n)))))))))))))) =
    omega arith in
    simp (past far 3 refl, past far 10 refl, past far 11 refl, past far 12 refl, past far 13 refl)

-- so of a kind that the code found
pub op_told : (f : List ℕ) (at : ℕ) {k : Kind} → k ≡ kind_of (byte_at f at)
    → op_of f at k ≡ op_at f at
unfolding op_at
op_told f at e = ap (op_of f at) e ∙ by_number f at (byte_at f at)
