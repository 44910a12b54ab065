-- Steps: blocks as they are measured. A hash has 16 digits whatever it is, so a text that is only
-- measured has 0 in its place, and no hash is computed.
use Rattle.std.specs.Prelude.{ℕ, Bool, false, cond}
use Rattle.std.proofs.Math.Option.{Option, none, some}
use Rattle.lower_forms.specs.Forms.{Body}

-- a hash as it is written (true) or measured (false)
abbrev pub hash_if : Bool → Option ℕ → Option ℕ
hash_if written none = none
hash_if written (some h) = some (cond written h 0)

-- a body as it is written (true) or measured (false)
abbrev pub hashed_if : Bool → Body → Body
hashed_if written b =
    record {
      addr = b.addr;
      thumb = b.thumb;
      count = b.count;
      hash = hash_if written b.hash;
      forms = b.forms;
      pending = b.pending;
    }

-- a body with 0 in the place of its hash, if it has one: what is measured instead of it
abbrev pub measured : Body → Body
measured = hashed_if false
