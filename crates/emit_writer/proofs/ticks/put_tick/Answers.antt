-- `emit_writer::ticks::put_tick` meets its contract: what its calls write, one after another.
-- Assumes nothing.
use mathlib.Core.Path.{◌≡◌, refl}
use Prim.Native.Nat.{ℕ, zero, suc}
use mathlib.Core.List.{[]}
use borrow.Author.Rules.{rules}
use Rattle.base_text.specs.Doc.{text, dec, ◌▸◌}
use Rattle.base_text.specs.Flat.{flat}
use Rattle.base_text.proofs.Laws.{none, seq, wrote_as}
use Rattle.emit_writer.specs.Ticks.{ticks}
use Rattle.emit_writer.proofs.ticks.put_tick.Goals as goal

-- cycles that are not 0 are ticked
line : (n : ℕ) → (n ≡ 0 → ⊥)
    → flat (text "    a->tick(m, " ▸ dec n ▸ text "u);\n") [] ≡ flat (ticks n) []
line zero h = absurd (h refl)
line (suc n) h = refl

pub returns-then-cycles-eq0 : goal.returns-then-cycles-eq0
returns-then-cycles-eq0 c =
    rw c.if-cycles-eq0.true (none (search rules) (search rules))

pub returns : goal.returns
returns c =
    wrote_as (seq c.put_then_dec-p.ensures c.put.ensures) (line _ c.if-cycles-eq0.false)
