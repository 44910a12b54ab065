-- The loop's invariant: hashing the bytes from the index on into h gives the hash of all.
-- Assumes nothing.
use Rattle.std.proofs.Common.{◌≡◌, drop}
use Rattle.base_hash.specs.Fnv.{fnv_from, fnv64}
use Rattle.base_hash.proofs.hash.Given as goal

abbrev pub invariant-loop-b : goal.invariant-loop-b
invariant-loop-b l = fnv_from l.multiplier l.h (drop l.b-index l.bytes) ≡ fnv64 l.multiplier l.bytes
