use Rattle.std.proofs.Common.{◌≡◌, drop, refl, add-one, arith, drop_of_length-le, drop-cons}
use Rattle.std.proofs.Common.{◌≤◌, length}
use Rattle.base_hash.specs.Fnv.{fnv_from, fnv64}
use Rattle.base_hash.proofs.hash.Goals as goal

pub loop-b-init : goal.loop-b-init
unfolding fnv64
loop-b-init c = refl

-- the bytes from the index on are the byte at the index and those after it
pub loop-b-preserved : goal.loop-b-preserved
unfolding fnv_from
loop-b-preserved c =
    let i = c.loop-b.b-index in
    let first : drop i c.args.bytes.now ≡ _ = drop-cons c.args.bytes.now i 0 (omega arith) in
    rw (c.wrapping_mul-h.ensures, c.from.ensures, add-one i) (rw first at c.loop-b.invariant)

pub returns : goal.returns
unfolding fnv_from
returns c =
    let past : length c.args.bytes.now ≤ c.loop-b.b-index = omega arith in
    rw drop_of_length-le at c.loop-b.invariant
