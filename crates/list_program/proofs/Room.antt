-- For a file of at most 65,536 bytes the lent buffers suffice: the listing's call refuses only what
-- the file's rules refuse. Assumes nothing.
use Prim.Native.Nat.{ℕ, ◌*◌, ◌≤◌, ◌<◌}
use mathlib.Core.Path.{◌≡◌, refl, sym, ap, ap₂, ◌∙◌}
use mathlib.Core.List.{List, [], ◌∷◌, ◌++◌}
use native.Mathlib.Omega.{arith}
use borrow.Author.Tests.{lt-ltb, le-ltb}
use lib.ListN.{length, take, drop, length-append, length-replicate}
use lib.Seq.{take_at}
use Rattle.base_text.specs.Doc.{Doc, text, print}
use Rattle.base_text.specs.Wrote.{Wrote}
use Rattle.base_text.proofs.Laws.{whole}
use Rattle.base_text.proofs.Lengths.{length_most}
use Rattle.file_blocks.specs.Parse.{Block, Parsed, parse}
use Rattle.file_blocks.proofs.Accepted.{length_of_lem, sections_of}
use Rattle.plan_groups.specs.Limit.{part_limit}
use Rattle.call_frame.specs.Answer.{refusal, value}
use Rattle.call_frame.specs.Frame.{Outcome, cleared, call_on_blocks, call_frame}
use Rattle.call_listing.specs.Calls.{listing_call}
use Rattle.call_listing.specs.Listing.{listing}
use Rattle.call_listing.proofs.Lengths.{listing_most}
use Rattle.list_program.specs.Output.{longest, room, refusal_line, shown, lent_work, lent_text}
use Rattle.list_program.specs.Output.{output}

-- the text of a call
abbrev the_text : List (List ℕ) → List ℕ
the_text [] = []
the_text (t ∷ results) = t

-- what the call leaves where the buffers suffice
abbrev listed : Parsed → List ℕ → List ℕ → Outcome ℕ
listed (Parsed.refused n i) work out =
    record { answer = refusal n i; work = work; results = out ∷ [] }
listed (Parsed.accepted bs) work out =
    record {
      answer = value (length (print (listing part_limit bs)));
      work = cleared (4 * length bs) work;
      results =
          (print (listing part_limit bs) ++ drop (length (print (listing part_limit bs))) out) ∷ [];
    }

-- and so what is printed
abbrev printed : Parsed → List ℕ
printed (Parsed.refused n i) = print (refusal_line n i)
printed (Parsed.accepted bs) = print (listing part_limit bs)

-- a text in the front of a buffer
front : (s rest : List ℕ) (n : ℕ) (out' : List ℕ) → n ≡ length s → out' ≡ s ++ rest
    → (n ≤ length out') × (take n out' ≡ s)
front s rest n out' size is = (
  omega (arith, ap length is, length-append s rest, size),
  ap (take n) is
      ∙ take_at s rest n (sym size),
)

-- a line in the front of a buffer that has room for it
pub line_shown : {out₁ out₂ : List ℕ} {r : ℕ} {d : Doc} → Wrote out₁ 0 d out₂ r
    → length (print d) ≤ length out₁
    → (r ≤ length out₂) × (take r out₂ ≡ print d)
line_shown {out₁} {out₂} {r} {d} w h =
    let put = whole w h in front (print d) (drop (length (print d)) out₁) r out₂ put.1 put.0

module _ (f : List ℕ) (short : length f ≤ longest) where
  few : (bs : List Block) → parse f ≡ Parsed.accepted bs → 16 * length bs ≤ 65504
  few bs is =
      let sections = sections_of f bs is in
      omega (arith, length_of_lem f bs is, sections.touch, sections.instrs)

  call_is : (work out : List ℕ) → 16384 ≤ length work → room ≤ length out → (p : Parsed)
      → parse f ≡ p → listing_call part_limit p work out ≡ listed p work out
  unfolding call_frame call_on_blocks
  call_is work out numbers bytes (Parsed.refused n i) is = refl
  call_is work out numbers bytes (Parsed.accepted bs) is =
      rw (
        le-ltb (length work) (4 * length bs) (omega (arith, few bs is)),
        le-ltb (length out) (length (print (listing part_limit bs)))
            (omega (arith, few bs is, listing_most part_limit bs)),
      )

  lent_is : (p : Parsed) → parse f ≡ p
      → listing_call part_limit p lent_work lent_text ≡ listed p lent_work lent_text
  unfolding lent_work lent_text
  lent_is p is =
      call_is lent_work lent_text (omega (arith, length-replicate {A = ℕ} 16384 0))
      (omega (arith, length-replicate {A = ℕ} room 0)) p is

  -- what is printed, by the file: the listing whole, or the line of the file's refusal
  output_is : (p : Parsed) → parse f ≡ p → output f ≡ printed p
  unfolding output shown
  output_is (Parsed.refused n i) is = rw (le-ltb longest (length f) short, is)
      (ap shown (lent_is (Parsed.refused n i) is))
  output_is (Parsed.accepted bs) is = rw (le-ltb longest (length f) short, is)
      (ap shown (lent_is (Parsed.accepted bs) is)
      ∙ take_at (print (listing part_limit bs)) _ _ refl)

  pub listing_printed : (bs : List Block) → parse f ≡ Parsed.accepted bs
      → output f ≡ print (listing part_limit bs)
  listing_printed bs is = output_is (Parsed.accepted bs) is

  pub refusal_printed : (n i : ℕ) → parse f ≡ Parsed.refused n i
      → output f ≡ print (refusal_line n i)
  refusal_printed n i is = output_is (Parsed.refused n i) is

  -- what the code has in the front of its buffer, by what the call left
  module _ (work out : List ℕ) (numbers : 16384 ≤ length work) (bytes : room ≤ length out) where
    by_listing : (p : Parsed) → parse f ≡ p → (n : ℕ) (work' out' : List ℕ)
        → record { answer = value n; work = work'; results = out' ∷ [] }
        ≡ listing_call part_limit p work out
        → (n ≤ length out') × (take n out' ≡ printed p)
    by_listing (Parsed.refused m j) is n work' out' e =
        let same : value n ≡ refusal m j =
        ap (λ (l : Outcome ℕ). l.answer)
        (e ∙ call_is work out numbers bytes (Parsed.refused m j) is) in
        absurd (let z : ◌≡◌ {A = ℕ} 0 1 = cc in omega arith)
    by_listing (Parsed.accepted bs) is n work' out' e =
        let left = e ∙ call_is work out numbers bytes (Parsed.accepted bs) is in
        let same : value n ≡ value (length (print (listing part_limit bs))) =
        ap (λ (l : Outcome ℕ). l.answer) left in
        let size : n ≡ length (print (listing part_limit bs)) = cc in
        front (print (listing part_limit bs)) (drop (length (print (listing part_limit bs))) out) n
        out' size (ap (λ (l : Outcome ℕ). the_text l.results) left)

    line_fits : (n i : ℕ) → length (print (refusal_line n i)) ≤ 53
    line_fits n i = length_most (refusal_line n i)

    by_line : (p : Parsed) → parse f ≡ p → (n i : ℕ) (work' out₁ out₂ : List ℕ) (r : ℕ)
        → record { answer = refusal n i; work = work'; results = out₁ ∷ [] }
        ≡ listing_call part_limit p work out
        → Wrote out₁ 0 (refusal_line n i) out₂ r
        → (r ≤ length out₂) × (take r out₂ ≡ printed p)
    by_line (Parsed.refused m j) is n i work' out₁ out₂ r e w =
        let left = e ∙ call_is work out numbers bytes (Parsed.refused m j) is in
        let same : refusal n i ≡ refusal m j = ap (λ (l : Outcome ℕ). l.answer) left in
        let number : n ≡ m = cc in
        let place : i ≡ j = cc in
        let long : length out₁ ≡ length out =
        ap (λ (l : Outcome ℕ). length (the_text l.results)) left in
        let there = line_shown w (omega (arith, line_fits n i, long)) in
        (there.0, there.1 ∙ ap₂ (λ (a b : ℕ). print (refusal_line a b)) number place)
    by_line (Parsed.accepted bs) is n i work' out₁ out₂ r e w =
        let same : refusal n i ≡ value (length (print (listing part_limit bs))) =
        ap (λ (l : Outcome ℕ). l.answer)
        (e ∙ call_is work out numbers bytes (Parsed.accepted bs) is) in
        absurd (let z : ◌≡◌ {A = ℕ} 0 1 = cc in omega arith)

    pub listing_shown : (n : ℕ) (work' out' : List ℕ)
        → record { answer = value n; work = work'; results = out' ∷ [] }
        ≡ listing_call part_limit (parse f) work out
        → (n ≤ length out') × (take n out' ≡ output f)
    listing_shown n work' out' e =
        let there = by_listing (parse f) refl n work' out' e in
        (there.0, there.1 ∙ sym (output_is (parse f) refl))

    pub refusal_shown : (n i : ℕ) (work' out₁ out₂ : List ℕ) (r : ℕ)
        → record { answer = refusal n i; work = work'; results = out₁ ∷ [] }
        ≡ listing_call part_limit (parse f) work out
        → Wrote out₁ 0 (refusal_line n i) out₂ r
        → (r ≤ length out₂) × (take r out₂ ≡ output f)
    refusal_shown n i work' out₁ out₂ r e w =
        let there = by_line (parse f) refl n i work' out₁ out₂ r e w in
        (there.0, there.1 ∙ sym (output_is (parse f) refl))

-- what is printed for a file that is too long
pub long_shown : (f : List ℕ) {out out₂ : List ℕ} {r : ℕ} → room ≤ length out → longest < length f
    → Wrote out 0 (text "too long\n") out₂ r
    → (r ≤ length out₂) × (take r out₂ ≡ output f)
unfolding output
long_shown f bytes h w = let there =
    line_shown w (omega (arith, length_most (text "too long\n"))) in
    rw (lt-ltb longest (length f) h) there
