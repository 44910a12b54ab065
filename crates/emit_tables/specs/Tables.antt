-- Steps: bodies by the keys that a unit has around their code.
use Rattle.std.specs.Prelude.{ℕ, ◌≡◌, List, map}
use Rattle.lower_forms.specs.Forms.{Body}
use Rattle.lower_units.specs.Block.{body_key}

-- bodies with some keys: of a body, what stands around the code shows its key alone
abbrev pub HaveKeys : List Body → List ℕ → Type 0
HaveKeys bs ks = map body_key bs ≡ ks
