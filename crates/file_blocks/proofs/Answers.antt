-- What the answer of the check says of a file.
-- Assumes nothing.
use Rattle.std.proofs.Common.{◌≡◌, ℕ, List, refl, ap, ◌∙◌}
use Rattle.std.specs.Prelude.{Ok, Err}
use mathlib.Core.Option.{Option, none, some}
use Rattle.file_blocks.specs.declared.refusal.Counts.{Counts}
use Rattle.file_blocks.specs.declared.rule.Rule.{Rule}
use Rattle.file_records.specs.Trailer.{block_count}
use Rattle.file_blocks.specs.Refusal.{number, place, first_broken, rules}
use Rattle.file_blocks.specs.Parse.{Parsed, parsed, parse, blocks_of, instr_total, Accepted}
use Rattle.file_blocks.specs.Checked.{counts_of, answered, checked}
use Rattle.file_blocks.proofs.Accepted.{length_of_lem}

by_rule : (f : List ℕ) (o : Option Rule) (r : Rule) → Err r ≡ answered f o → o ≡ some r
by_rule f none r e = cc
by_rule f (some s) r e = cc

by_counts : (f : List ℕ) (o : Option Rule) (c : Counts) → Ok c ≡ answered f o
    → (o ≡ none) × (c ≡ counts_of (blocks_of f))
by_counts f none c e = (refl, cc)
by_counts f (some r) c e = cc

module _ (f : List ℕ) where
  -- a file that the check refuses
  pub refused_file : (r : Rule) → Err r ≡ checked f → parse f ≡ Parsed.refused (number r) (place r)
  unfolding checked parse
  refused_file r e = ap (parsed f) (by_rule f (first_broken f (rules f)) r e)

  module _ (c : Counts) (e : Ok c ≡ checked f) where
    told : (first_broken f (rules f) ≡ none) × (c ≡ counts_of (blocks_of f))
    unfolding checked
    told = by_counts f (first_broken f (rules f)) c e

    -- a file that the check accepts, and its counts
    pub accepted_file : Accepted f
    unfolding parse
    accepted_file = ap (parsed f) told.0

    pub accepted_blocks : c.blocks ≡ block_count f
    accepted_blocks =
        ap (λ (k : Counts). k.blocks) told.1 ∙ length_of_lem f (blocks_of f) accepted_file

    pub accepted_instrs : c.instructions ≡ instr_total (blocks_of f)
    accepted_instrs = ap (λ (k : Counts). k.instructions) told.1
