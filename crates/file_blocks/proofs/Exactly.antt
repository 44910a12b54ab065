-- 'Given exactly if': parse refuses with a rule's number and place exactly if the rule applies, and
-- accepts exactly if none does. Assumes nothing.
use Rattle.std.proofs.Common.{◌≡◌, ℕ, ◌-◌, ◌↔◌, List, [], ◌∷◌, get_or, sym, refl, ap, ◌∙◌, ap₂, arith}
use mathlib.Core.Option.{Option, none, some}
use Rattle.base_lists.proofs.Firsts.{is_found, first_found}
use Rattle.file_records.specs.Trailer.{block_count}
use Rattle.file_blocks.specs.declared.rule.Rule.{Rule}
use Rattle.file_blocks.specs.Refusal.{number, place, broken, first_broken, rules}
use Rattle.file_blocks.specs.Refusal.{Applies}
use Rattle.file_blocks.specs.Parse.{Block, Parsed, blocks_from, parsed, parse}

-- the rule that a number and a place name
rule_of : ℕ → ℕ → Rule
rule_of n i =
    get_or (Rule.Short ∷ Rule.Limits ∷ Rule.Trailer ∷ Rule.Block i ∷ Rule.Order i ∷ Rule.Sum
    ∷ Rule.Instr i
    ∷ []) (n - 1) Rule.Short

rule_of_lem : (r : Rule) → rule_of (number r) (place r) ≡ r
unfolding rule_of
rule_of_lem Rule.Short = refl
rule_of_lem Rule.Limits = refl
rule_of_lem Rule.Trailer = refl
rule_of_lem (Rule.Block i) = refl
rule_of_lem (Rule.Order i) = refl
rule_of_lem Rule.Sum = refl
rule_of_lem (Rule.Instr i) = refl

-- two rules with the same number and place are one
same_rule : (r s : Rule) → number r ≡ number s → place r ≡ place s → r ≡ s
same_rule r s e h = sym (rule_of_lem r) ∙ ap₂ rule_of e h ∙ rule_of_lem s

module _ (f : List ℕ) where
  refused_rule : (o : Option Rule) (r : Rule) → parsed f o ≡ Parsed.refused (number r) (place r)
      → o ≡ some r
  refused_rule none r e = absurd (let z : ◌≡◌ {A = ℕ} 0 1 = cc in omega arith)
  refused_rule (some s) r e =
      let n : number s ≡ number r = cc in
      let i : place s ≡ place r = cc in
      ap some (same_rule s r n i)

  applies : (r : Rule) → first_broken f (rules f) ≡ some r → Applies f r
  applies r e = first_found (broken f) (rules f) r e

  applied : (r : Rule) → Applies f r → first_broken f (rules f) ≡ some r
  applied r a = is_found (broken f) (rules f) r a

  -- a rule's refusal is given exactly if the rule applies
  pub refused_exactly : (r : Rule) → (parse f ≡ Parsed.refused (number r) (place r)) ↔ Applies f r
  unfolding parse
  refused_exactly r = (
    λ e. applies r (refused_rule (first_broken f (rules f)) r e),
    λ a. ap (parsed f)
        (applied r a),
  )

  -- a file is accepted exactly if no rule applies
  pub accepted_exactly : (parse f ≡ Parsed.accepted (blocks_from f (block_count f) 0 0)) ↔
      ((r : Rule) → Applies f r → ⊥)
  unfolding parse
  accepted_exactly = (
    λ e r a. clash (sym e ∙ ap (parsed f) (applied r a)),
    λ never. go (first_broken f (rules f))
        refl never,
  )
    where
      clash : {bs : List Block} {n i : ℕ} → Parsed.accepted bs ≡ Parsed.refused n i → ⊥
      clash e = let z : ◌≡◌ {A = ℕ} 0 1 = cc in omega arith

      go : (o : Option Rule) → first_broken f (rules f) ≡ o → ((r : Rule) → Applies f r → ⊥)
          → parsed f o ≡ Parsed.accepted (blocks_from f (block_count f) 0 0)
      go none e never = refl
      go (some r) e never = absurd (never r (applies r e))
