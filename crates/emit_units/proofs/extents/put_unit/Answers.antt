use Prim.Native.Nat.{◌+◌}
use mathlib.Core.Path.{refl, ◌∙◌}
use native.Mathlib.Omega.{arith}
use Rattle.base_hash.specs.Fnv.{hash_multiplier}
use Rattle.file_blocks.specs.Parse.{blocks_of}
use Rattle.emit_tables.proofs.Around.{body_keys}
use Rattle.emit_group.specs.Groups.{file_bodies}
use Rattle.emit_units.proofs.Written.{making_none, making_more, making_handed}
use Rattle.emit_units.proofs.Written.{making_end}
use Rattle.emit_units.proofs.extents.put_unit.Goals as goal

pub loop-q-init : goal.loop-q-init
loop-q-init c = (
  omega arith,
  refl,
  λ limit g ready h e. making_none h e c.put_preamble-at.ensures
      c.put_preamble-at.auto.out,
)

pub returns-then-max-at : goal.returns-then-max-at
returns-then-max-at c =
    let f = c.args.file.now in record {
      within = c.group_end.ensures.inside.1;
      unit = λ limit g ready h e.
          let m = c.loop-q.invariant.2 limit g ready h e in
          let ends =
          c.group_end.ensures.planned f limit (g + m.walked.size) ready m.walked.here in
          making_handed ready m (omega arith) ends
          (c.emit_group-at.ensures limit (g + m.walked.size)
          (record { ready = ready; first = m.walked.here; next = ends }))
          (omega (arith, c.ranges.max)) _ e (omega arith) c.put_preamble-at.ensures;
    }

pub loop-q-preserved : goal.loop-q-preserved
loop-q-preserved c =
    let f = c.args.file.now in (
      c.group_end.ensures.inside.1,
      c.emit_group-at.auto.out ∙ c.loop-q.invariant.1,
      λ limit g ready h e.
          let m = c.loop-q.invariant.2 limit g ready h e in
          let ends =
          c.group_end.ensures.planned f limit (g + m.walked.size) ready m.walked.here in
          making_more ready m (omega arith) ends
          (c.emit_group-at.ensures limit (g + m.walked.size)
          (record { ready = ready; first = m.walked.here; next = ends }))
          (omega (arith, c.ranges.max)) (omega arith),
    )

pub shape_of-out-then-max-at : goal.shape_of-out-then-max-at
shape_of-out-then-max-at c =
    c.emit_group-at.auto.out ∙ c.loop-q.invariant.1 ∙ c.put_preamble-at.auto.out

pub returns : goal.returns
returns c =
    let f = c.args.file.now in record {
      within = c.loop-q.invariant.0;
      unit = λ limit g ready h e.
          making_end ready (c.loop-q.invariant.2 limit g ready h e) _ e (omega arith)
          c.put_preamble-at.ensures
          (c.put_tail.ensures (file_bodies f) (body_keys hash_multiplier (blocks_of f)));
    }

pub shape_of-out : goal.shape_of-out
shape_of-out c =
    c.put_tail.auto.out ∙ c.loop-q.invariant.1 ∙ c.put_preamble-at.auto.out
