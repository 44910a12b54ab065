-- What is claimed of the sentences of a file holds of every file.
-- Assumes nothing.
use Prim.Native.Nat.{ℕ, zero, suc, ◌+◌, ◌*◌, ◌≤◌, ◌<◌}
use mathlib.Core.Path.{◌≡◌, refl, sym, ap, ap₂, ◌∙◌, subst}
use mathlib.Core.Bool.{Bool, true, false, not, cond, ◌&&◌, ◌||◌}
use mathlib.Core.List.{List, [], ◌∷◌, ◌++◌}
use mathlib.Core.Option.{Option, none, some, map}
use native.Mathlib.Decide.{ℕ_discrete}
use native.Mathlib.Nat.{le_of_suc-le-suc}
use native.Mathlib.Omega.{arith}
use lib.Dec.{eqb}
use lib.ListN.{length, get_or, get_elem?, length-append}
use Rattle.base_lists.specs.Lists.{is_some, IsFirst}
use Rattle.base_lists.proofs.Firsts.{first_found}
use Rattle.base_words.specs.Word.{one_if}
use Rattle.armv4t.specs.declared.Cond.{Cond}
use Rattle.armv4t.specs.declared.Op.{Op}
use Rattle.armv4t.specs.declared.Instr.{Instr}
use Rattle.armv4t.specs.Instr.{size_of}
use Rattle.file_records.specs.Bytes.{byte_at}
use Rattle.file_instrs.specs.declared.decode.TimedInstr.{TimedInstr}
use Rattle.file_instrs.specs.Decode.{alu_at, mul_at, mul_long_at, mem_at, block_mem_at, free_op, ops_at}
use Rattle.file_instrs.specs.Decode.{op_at}
use Rattle.file_blocks.specs.Parse.{Block, block_key, instr_total}
use Rattle.file_blocks.specs.Address.{region, outside_rom_bios}
use Rattle.file_blocks.proofs.Ranges.{Consecutive, accepted_consecutive, accepted_end}
use Rattle.lower_forms.specs.Block.{emit_instrs, body_of}
use Rattle.lower_units.specs.Block.{code_from, block_code}
use Rattle.lower_reasons.specs.declared.types.Reason.{Reason}
use Rattle.lower_reasons.specs.Reasons.{kind_of, kind_number, reasons, holds, reason_by, reason_of}
use Rattle.lower_reasons.specs.Said.{Said, has_code, pairs, drops_rest, said_of, nothing_of}
use Rattle.lower_reasons.specs.Said.{said_each, said_in, said_at, said_in_all}
use Rattle.claim_reasons.specs.Claims.{Explains, ReasonClaims}
use Rattle.claim_reasons.specs.InterpCalls.{interp_calls}
use Rattle.claim_reasons.proofs.ReadBack.{read_back, sentence_once, sentence_length}
use Rattle.claim_reasons.proofs.Shells.{native_reason}
use Rattle.claim_reasons.proofs.Tree.{of_code, of_block}
use Rattle.claim_reasons.proofs.Walked.{shell_from, shell_at, nothing_at, nothing_length}
use Rattle.claim_reasons.proofs.Walked.{said_of_shells}

-- there is one place for each instruction
each_length : (area : ℕ) (xs : List TimedInstr) → length (said_each area xs) ≡ length xs
unfolding said_each
each_length area [] = refl
each_length area (x ∷ xs) =
    by (pairs x.instr xs) (drops_rest area x.instr) (each_length area xs)
  where
    by : (p l : Bool) → length (said_each area xs) ≡ length xs
        → length
        (cond p (nothing_of (x ∷ xs))
        (said_of area x.instr ∷ cond l (nothing_of xs) (said_each area xs)))
        ≡ suc (length xs)
    by true l e = ap suc (nothing_length xs)
    by false true e = ap suc (nothing_length xs)
    by false false e = ap suc e

pub in_length : (b : Block) → length (said_in b) ≡ length b.instrs
unfolding said_in
in_length b = by (has_code b)
  where
    by : (t : Bool) → length
        (cond t (said_each (region b.addr) b.instrs) (nothing_of b.instrs))
        ≡ length b.instrs
    by true = each_length (region b.addr) b.instrs
    by false = nothing_length b.instrs

pub all_length : (bs : List Block) → length (said_in_all bs) ≡ instr_total bs
unfolding said_in_all instr_total
all_length [] = refl
all_length (b ∷ bs) =
    length-append (said_in b) (said_in_all bs)
    ∙ ap₂ (λ (m n : ℕ). m + n) (in_length b) (all_length bs)

-- nothing is no sentence
no_sentence : {A : Type 0} {s : Said} → none ≡ some s → A
no_sentence e = absurd (let z : ◌≡◌ {A = ℕ} 0 1 = cc in omega arith)

-- an instruction of which s is said, at index i of some
record Here (area : ℕ) (xs : List TimedInstr) (i : ℕ) (s : Said) : Type 0 where
  x : TimedInstr
  is : get_elem? xs i ≡ some x
  said : said_of area x.instr ≡ some s

here_later : {area : ℕ} {x : TimedInstr} {xs : List TimedInstr} {i : ℕ} {s : Said}
    → Here area xs i s → Here area (x ∷ xs) (suc i) s
here_later h = record { x = h.x; is = h.is; said = h.said }

said_here : (area : ℕ) (xs : List TimedInstr) (i : ℕ) (s : Said)
    → get_or (said_each area xs) i none ≡ some s → Here area xs i s
unfolding said_each
said_here area [] i s e = no_sentence e
said_here area (x ∷ xs) i s e =
    by (pairs x.instr xs) (drops_rest area x.instr) i e (λ j. said_here area xs j s)
  where
    by : (p l : Bool) (i : ℕ)
        → get_or (cond p (nothing_of (x ∷ xs))
        (said_of area x.instr ∷ cond l (nothing_of xs) (said_each area xs))) i none
        ≡ some s
        → ((j : ℕ) → get_or (said_each area xs) j none ≡ some s → Here area xs j s)
        → Here area (x ∷ xs) i s
    by true l i e f = no_sentence (sym (nothing_at (x ∷ xs) i) ∙ e)
    by false l zero e f = record { x = x; is = refl; said = e }
    by false true (suc i) e f = no_sentence (sym (nothing_at xs i) ∙ e)
    by false false (suc i) e f = here_later (f i e)

-- what is said of a block's instruction is said of it alone
in_here : (b : Block) (i : ℕ) (s : Said) → said_at b i ≡ some s
    → Here (region b.addr) b.instrs i s
unfolding said_in
in_here b i s e = by (has_code b) e
  where
    by : (t : Bool)
        → get_or (cond t (said_each (region b.addr) b.instrs) (nothing_of b.instrs)) i none
        ≡ some s
        → Here (region b.addr) b.instrs i s
    by true e = said_here (region b.addr) b.instrs i s e
    by false e = no_sentence (sym (nothing_at b.instrs i) ∙ e)

-- its parts are those of the instruction
said_parts : (area : ℕ) (i : Instr) (s : Said) → said_of area i ≡ some s
    → (s.addr ≡ i.addr) × (s.kind ≡ kind_of i.op) × (reason_of area i ≡ some s.reason)
said_parts area i s e = by (reason_of area i) e
  where
    by : (o : Option Reason)
        → map (λ (r : Reason). record { addr = i.addr; kind = kind_of i.op; reason = r })
        o
        ≡ some s
        → (s.addr ≡ i.addr) × (s.kind ≡ kind_of i.op) × (o ≡ some s.reason)
    by none e = no_sentence e
    by (some r) e =
        let same : record { addr = i.addr; kind = kind_of i.op; reason = r } ≡ s = cc in (
          ap (λ (t : Said). t.addr) (sym same),
          ap (λ (t : Said). t.kind) (sym same),
          ap
              (λ (t : Said). some t.reason) same,
        )

-- the reason is the first in the list whose test holds
reason_first : (region : ℕ) (c : Cond) (op : Op) (r : Reason) → reason_by region c op ≡ some r
    → IsFirst (holds region c op) reasons r
unfolding reason_by
reason_first region c op r e = first_found (holds region c op) reasons r e

explains : (b : Block) (i : ℕ) (s : Said) → said_at b i ≡ some s → Explains b i s
explains b i s e =
    let h = in_here b i s e in
    let parts = said_parts (region b.addr) h.x.instr s h.said in
    record {
      x = h.x;
      is = h.is;
      addr = parts.0;
      kind = parts.1;
      reason =
          reason_first (region b.addr) h.x.instr.cond h.x.instr.op s.reason
          parts.2;
    }

-- the address of an instruction is not past the end of those that it stands among
addr_inside : (a : ℕ) (t : Bool) (xs : List TimedInstr) (i : ℕ) (x : TimedInstr)
    → Consecutive a t xs → get_elem? xs i ≡ some x → x.instr.addr < a + length xs * size_of t
addr_inside a t [] i x c e = absurd (let z : ◌≡◌ {A = ℕ} 0 1 = cc in omega arith)
addr_inside a true (y ∷ ys) zero x c e =
    let same : y ≡ x = cc in
    omega (arith, ap (λ (z : TimedInstr). z.instr.addr) same, c.0)
addr_inside a false (y ∷ ys) zero x c e =
    let same : y ≡ x = cc in
    omega (arith, ap (λ (z : TimedInstr). z.instr.addr) same, c.0)
addr_inside a true (y ∷ ys) (suc i) x c e =
    omega (arith, addr_inside (a + 2) true ys i x c.2 e)
addr_inside a false (y ∷ ys) (suc i) x c e =
    omega (arith, addr_inside (a + 4) false ys i x c.2 e)

-- the code of a block's instructions, which its text has
has_code_lem : (outside present : Bool) → (outside ≡ true → present ≡ true)
    → (not outside || present) ≡ true
has_code_lem false present f = refl
has_code_lem true present f = f refl

module _ (b : Block) (ks : List ℕ) (multiplier key i : ℕ) where
  text : interp_calls key i (block_code ks (body_of multiplier b))
      ≡ one_if (eqb key (block_key b) && is_some (said_at b i))
      + one_if (eqb key (block_key b) && (outside_rom_bios b.addr && eqb i 0))
  text =
      of_block ks multiplier b key i
      ∙ ap (λ (t : Bool). one_if (eqb key (block_key b) && t)
      + one_if (eqb key (block_key b) && (outside_rom_bios b.addr && eqb i 0)))
      (sym (said_of_shells b i))

  shells : (outside_rom_bios b.addr ≡ true → is_some b.code ≡ true)
      → interp_calls key i (code_from ks (body_of multiplier b) 0 (body_of multiplier b).forms)
      ≡ one_if (eqb key (block_key b) && is_some (said_at b i))
  unfolding body_of shell_at
  shells has =
      of_code ks (body_of multiplier b) i key 0 (body_of multiplier b).forms
      ∙ ap (λ (t : Bool). one_if (eqb key (block_key b) && t))
      (sym (ap (λ (t : Bool). t
      && shell_from i 0 (emit_instrs b.thumb (region b.addr) 0 b.instrs).0)
      (has_code_lem (outside_rom_bios b.addr) (is_some b.code) has))
      ∙ sym (said_of_shells b i))

-- an instruction's place, by the blocks before its own
place_in : (xs ys : List (Option Said)) (i : ℕ) → i < length xs
    → get_elem? (xs ++ ys) i ≡ some (get_or xs i none)
place_in [] ys i h = absurd (omega arith)
place_in (x ∷ xs) ys zero h = refl
place_in (x ∷ xs) ys (suc i) h = place_in xs ys i (le_of_suc-le-suc h)

place_after : (xs ys : List (Option Said)) (n i : ℕ) → n ≡ length xs
    → get_elem? (xs ++ ys) (n + i) ≡ get_elem? ys i
place_after [] ys n i e = ap (get_elem? ys) (let same : n + i ≡ i = omega (arith, e) in same)
place_after (x ∷ xs) ys zero i e = absurd (omega (arith, e))
place_after (x ∷ xs) ys (suc n) i e =
    ap (get_elem? ((x ∷ xs) ++ ys)) (let same : suc n + i ≡ suc (n + i) = omega arith in same)
    ∙ place_after xs ys n i (omega (arith, e))

numbers : (before : List Block) (b : Block) (after : List Block) (i : ℕ) → i < length b.instrs
    → get_elem? (said_in_all (before ++ (b ∷ after))) (instr_total before + i) ≡ some (said_at b i)
unfolding said_in_all instr_total
numbers [] b after i h =
    ap (get_elem? (said_in b ++ said_in_all after)) (let same : 0 + i ≡ i = omega arith in same)
    ∙ place_in (said_in b) (said_in_all after) i (omega (arith, in_length b))
numbers (c ∷ before) b after i h =
    let n : ℕ = instr_total before in
    ap (get_elem? (said_in c ++ said_in_all (before ++ (b ∷ after))))
    (let same : length c.instrs + n + i ≡ length c.instrs + (n + i) = omega arith in same)
    ∙ place_after (said_in c) (said_in_all (before ++ (b ∷ after))) (length c.instrs) (n + i)
    (sym (in_length c))
    ∙ numbers before b after i h

-- what holds of each number below n
abbrev Below : (ℕ → Type 0) → ℕ → Type 0
Below P zero = Unit {0}
Below P (suc n) = P n × Below P n

below : (P : ℕ → Type 0) (n : ℕ) → Below P n → (k : ℕ) → k < n → P k
below P zero h k l = absurd (omega arith)
below P (suc n) h k l =
    elim (ℕ_discrete n k) [
      | yes e ↦ subst P e h.0
      | no d ↦ below P n h.1 k (omega (arith, d))
    ]

-- the kind that a record has, by its first byte
kind_of_record : (f : List ℕ) (at n : ℕ) → n < 15
    → kind_number (kind_of (get_or (ops_at f at) n (free_op n))) ≡ n
unfolding alu_at mul_at mul_long_at mem_at block_mem_at free_op
kind_of_record f at =
    below (λ (n : ℕ). kind_number (kind_of (get_or (ops_at f at) n (free_op n))) ≡ n) 15
    (search depth 16)

kinds : (f : List ℕ) (at : ℕ) → byte_at f at ≤ 14 → kind_number (kind_of (op_at f at)) ≡ byte_at f at
unfolding op_at
kinds f at h = kind_of_record f at (byte_at f at) (omega (arith, h))

-- what is claimed of the sentences of every file
pub reason_claims : (f : List ℕ) → ReasonClaims f
reason_claims f =
    record {
      blocks = λ bs ok b m.
          record {
            each = in_length b;
            text = text b;
            shells = λ has ks multiplier key i. shells b ks multiplier key i has;
            so = explains b;
            small = λ i s e.
                let h = explains b i s e in
                omega (
                  arith,
                  h.addr,
                  addr_inside b.addr b.thumb b.instrs i h.x
                      (accepted_consecutive f bs ok b m) h.is,
                  accepted_end f bs ok b m,
                );
          };
      numbers = numbers;
      kinds = kinds f;
      reasoned = native_reason;
      some_bytes = λ s. omega (arith, sentence_length s);
      read = read_back;
      once = sentence_once;
    }
