-- Examples: calls that are counted, sentences that are read, texts that are none, and what is not
-- the first reason, computed.
use Rattle.std.specs.Prelude.{ℕ, ◌≡◌, refl, false, eqb, length}
use Rattle.std.proofs.Common.{sym, ap, ◌∙◌, true≢false, arith}
use Rattle.std.proofs.Math.Bool.{and-false}
use mathlib.Core.List.{List, [], ◌∷◌, map, Memᴰ}
use Rattle.std.proofs.Math.Option.{none, some}
use Rattle.base_lists.specs.Lists.{IsFirst}
use Rattle.base_lists.proofs.Firsts.{is_found}
use Rattle.base_text.specs.Doc.{Doc, text, print}
use Rattle.armv4t.specs.declared.Cond.TheVariants.{Eq}
use Rattle.armv4t.specs.declared.Op.TheVariants.{Bx}
use Rattle.file_blocks.specs.Address.{outside_rom_bios}
use Rattle.file_blocks.specs.Parse.{Block, block_key, AcceptedAs}
use Rattle.lower_forms.specs.Block.{body_of}
use Rattle.lower_units.specs.Block.{block_code}
use Rattle.c_tree.specs.Stmt.{common, gate, label, goto, interp, ret_interp, call, switch, Code}
use Rattle.c_tree.specs.Stmt.{end, ◌⨾◌, when, braces}
use Rattle.lower_reasons.specs.declared.types.Kind.{Kind}
use Rattle.lower_reasons.specs.declared.types.Reason.TheVariants.{ConditionalExit, BiosExit}
use Rattle.lower_reasons.specs.declared.types.Reason.TheVariants.{PcBase, NoNativeForm}
use Rattle.lower_reasons.specs.Reasons.{reasons, holds}
use Rattle.lower_reasons.specs.Said.{Said, said_at}
use Rattle.lower_reasons.specs.Sentence.{sentence}
use Rattle.claim_reasons.specs.Claims.{ReasonClaims}
use Rattle.claim_reasons.specs.InterpCalls.{interp_calls}
use Rattle.claim_reasons.specs.Reader.{read_sentence}

-- calls for record 3 of the block with key 8: inside an if, inside braces and after both, and
-- others
abbrev some_calls : Code
some_calls =
    when common false gate (interp 8 3 ⨾ end)
    (braces (ret_interp 8 3 ⨾ interp 8 4 ⨾ end)
    (interp 8 3 ⨾ interp 9 3 ⨾ label 8 ⨾ call 8 3 ⨾ goto common 8 ⨾ switch (8 ∷ 3 ∷ []) ⨾ end))

three_calls : interp_calls 8 3 some_calls ≡ 3
three_calls = refl

other_calls : (interp_calls 8 4 some_calls ∷ interp_calls 9 3 some_calls ∷ interp_calls 9 4 some_calls
    ∷ [])
    ≡ 1 ∷ 1 ∷ 0 ∷ []
other_calls = refl

-- a sentence that is read: MulLong is not taken for Mul
sentence_read : read_sentence (print (text "080000a4 MulLong PC as base"))
    ≡ some (record { addr = 0x0800_00a4; kind = Kind.MulLong; reason = PcBase })
unfolding print read_sentence
sentence_read = refl

-- texts that are no sentence: no text, an address alone, a newline after, a space after, an unknown
-- kind, two spaces, a reason cut short
nothing_read : map (λ (d : Doc). read_sentence (print d))
    (text "" ∷ text "080000a4" ∷ text "080000a4 Mul PC as base\n" ∷ text "080000a4 Mul PC as base "
    ∷ text "080000a4 Mule PC as base" ∷ text "080000a4  Mul PC as base"
    ∷ text "080000a4 Mul PC as b"
    ∷ [])
    ≡ none ∷ none ∷ none ∷ none ∷ none ∷ none ∷ none ∷ []
unfolding print read_sentence
nothing_read = refl

-- of a Bx under a condition in BIOS the second that holds is not the first
not_second : IsFirst (holds 0 Eq (Bx 0)) reasons BiosExit → ⊥
not_second f =
    let e : some ConditionalExit ≡ some BiosExit =
    is_found (holds 0 Eq (Bx 0)) reasons BiosExit f in
    let z : ◌≡◌ {A = ℕ} 0 1 = cc in omega arith

-- nor one that does not hold
not_held : IsFirst (holds 0 Eq (Bx 0)) reasons NoNativeForm → ⊥
not_held f = true≢false (sym f.here)

-- what follows of the claims: each sentence of an accepted file is read back, and none is empty
said_read : (f : List ℕ) → ReasonClaims f → (bs : List Block) → AcceptedAs f bs → (b : Block)
    → Memᴰ b bs → (i : ℕ) (s : Said) → said_at b i ≡ some s
    → read_sentence (print (sentence s)) ≡ some s
said_read f c bs ok b m i s e = c.read s ((c.blocks bs ok b m).small i s e)

said_bytes : (f : List ℕ) → ReasonClaims f → (s : Said) → print (sentence s) ≡ [] → ⊥
said_bytes f c s e = omega (arith, c.some_bytes s, ap length e)

-- in BIOS and ROM a shell without a sentence is none
unsaid : (f : List ℕ) → ReasonClaims f → (bs : List Block) → AcceptedAs f bs → (b : Block)
    → Memᴰ b bs → outside_rom_bios b.addr ≡ false → (ks : List ℕ) (multiplier i : ℕ)
    → said_at b i ≡ none → interp_calls (block_key b) i (block_code ks (body_of multiplier b)) ≡ 0
unsaid f c bs ok b m rom ks multiplier i e =
    (c.blocks bs ok b m).text ks multiplier (block_key b) i
    ∙ rw (e, rom, and-false (eqb (block_key b) (block_key b)))
