-- `emit_flow::keys::put_key` meets its contract: what its calls write, one after another. Assumes
-- nothing.
use mathlib.Core.Path.{ap}
use mathlib.Core.List.{[]}
use Prim.Native.Nat.{ℕ}
use borrow.Author.Tests.{eq-eqb, ne_eqb}
use Rattle.base_text.specs.Doc.{text, hex8, ◌▸◌}
use Rattle.base_text.specs.Flat.{flat}
use Rattle.base_text.proofs.Laws.{seq, wrote_as}
use Rattle.emit_flow.proofs.keys.put_key.Goals as goal

pub returns-then-key-eq1 : goal.returns-then-key-eq1
returns-then-key-eq1 c =
    rw (eq-eqb _ _ c.if-key-eq1.true)
    (wrote_as (seq c.put_hex8-p.ensures c.put.ensures)
    (ap (λ (n : ℕ). flat (hex8 n ▸ text "_t") []) c.clear_bit0.ensures))

pub returns-else-key-eq1 : goal.returns-else-key-eq1
returns-else-key-eq1 c =
    rw (ne_eqb _ _ c.if-key-eq1.false)
    (wrote_as (seq c.put_hex8-p.ensures c.put-else-key-eq1.ensures)
    (ap (λ (n : ℕ). flat (hex8 n ▸ text "_a") []) c.clear_bit0.ensures))
