-- The claims leave no state and no machine out: each state of words and bytes agrees with a
-- machine, and each machine in range with such a state.
use Prim.Native.Nat.{ℕ, ◌+◌, ◌*◌, ◌/◌, ◌%◌, ◌^◌, ◌<◌}
use mathlib.Core.Path.{◌≡◌, refl, sym, subst}
use mathlib.Core.Bool.{Bool, true, false, cond}
use mathlib.Core.List.{List}
use native.Mathlib.Nat.{mod-lt}
use native.Mathlib.Omega.{arith}
use lib.Dec.{T, eqb, ltb, ltb→lt, lit<}
use lib.Pow.{shr-shr}
use Rattle.base_words.specs.Word.{bit}
use Rattle.base_words.proofs.Bits.{bit_num}
use Rattle.c_meaning.specs.State.{Scope, Interpreter, State}
use Rattle.armv4t_manual.specs.Machine.{Machine, pack, cpsr, Sound}
use Rattle.lower_forms.specs.Agree.{Agrees}
use Rattle.lower_forms.proofs.Gives.{lt_true}
use Rattle.lower_forms.proofs.Operands.{pack_lt}
use Rattle.lower_forms.proofs.Steps.{ne}

-- a word as a status register
unpack : (x : ℕ) → x < 4294967296
    → x ≡ pack (bit x 31) (bit x 30) (bit x 29) (bit x 28) (x % 2 ^ 28)
unpack x h =
    rw (
      bit_num x 31,
      bit_num x 30,
      bit_num x 29,
      bit_num x 28,
      ← shr-shr x 30 1,
      ← shr-shr x 29 1,
      ← shr-shr x 28 1,
    ) (go x h)
  where
    go : (x : ℕ) → x < 4294967296
        → x ≡ (x / 268435456 / 2 / 2 / 2 % 2 * 8 + x / 268435456 / 2 / 2 % 2 * 4 + x / 268435456 / 2
        % 2 * 2 + x / 268435456 % 2) * 268435456 + x % 268435456
    go x h = omega arith

pub every_state : (z : State) → ((i : ℕ) → z.c i < 4294967296) → ((a : ℕ) → z.mem a < 256)
    → (m : Machine) × Agrees z m × Sound m
every_state z w b =
    let x : ℕ = z.c 16 in (
      record {
        r = z.c;
        n = bit x 31;
        z = bit x 30;
        c = bit x 29;
        v = bit x 28;
        other_bits = x % 2 ^ 28;
        mem = z.mem;
      },
      record { regs = λ i h. refl; flags = unpack x (w 16); memory = refl },
      record { words = λ i h. w i; other_bits = mod-lt x (lit< tt); bytes = b },
    )

-- the words of c for a machine: its registers, c[15] and what lies beyond c[16] being 0
abbrev words_of : Machine → ℕ → ℕ
words_of m i = cond (eqb i 16) (cpsr m) (cond (ltb i 15) (m.r i) 0)

words_lt : {m : Machine} → Sound m → (i : ℕ) → words_of m i < 4294967296
words_lt {m} s i = go (eqb i 16) (ltb i 15) refl
  where
    go : (b c : Bool) → ltb i 15 ≡ c → cond b (cpsr m) (cond c (m.r i) 0) < 4294967296
    go true c q = pack_lt m.n m.z m.c m.v m.other_bits s.other_bits
    go false true q = s.words i (ltb→lt i 15 (subst T (sym q) tt))
    go false false q = lit< tt

-- with any scopes, answers of the runtime and interpreter
pub every_machine : (m : Machine) → Sound m
    → (fs : List Scope) (answers : ℕ → ℕ) (interpreter : ℕ → Interpreter)
    → (z : State) × Agrees z m × ((i : ℕ) → z.c i < 4294967296) × ((a : ℕ) → z.mem a < 256)
    × (z.scopes ≡ fs) × (z.answers ≡ answers) × (z.interpreter ≡ interpreter)
every_machine m s fs answers interpreter = (
  record { c = words_of m; mem = m.mem; scopes = fs; answers = answers; interpreter = interpreter },
  record { regs = λ i h. rw (ne i 16 (omega (arith, h)), lt_true h); flags = refl; memory = refl },
  words_lt s,
  s.bytes,
  refl,
  refl,
  refl,
)
