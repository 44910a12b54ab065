-- To be believed: the conditions by number, and which of them is Al.
use Rattle.std.specs.Prelude.{ℕ, Bool, true, false, List, [], ◌∷◌, slice_index_or}
use Rattle.armv4t.specs.declared.Cond.{Cond}
use Rattle.armv4t.specs.declared.Cond.TheVariants.{Eq, Ne, Cs, Cc, Mi, Pl, Vs, Vc, Hi, Ls}
use Rattle.armv4t.specs.declared.Cond.TheVariants.{Ge, Lt, Gt, Le, Al, Nv}

-- all conditions, in encoding order
abbrev pub conds : List Cond
conds = Eq ∷ Ne ∷ Cs ∷ Cc ∷ Mi ∷ Pl ∷ Vs ∷ Vc ∷ Hi ∷ Ls ∷ Ge ∷ Lt ∷ Gt ∷ Le ∷ Al ∷ Nv ∷ []

-- the condition that a number below 16 encodes; a larger number encodes none, and gives Eq
abbrev pub cond_of : ℕ → Cond
cond_of n = slice_index_or conds n Eq

-- whether a condition is Al
abbrev pub is_al : Cond → Bool
is_al Eq = false
is_al Ne = false
is_al Cs = false
is_al Cc = false
is_al Mi = false
is_al Pl = false
is_al Vs = false
is_al Vc = false
is_al Hi = false
is_al Ls = false
is_al Ge = false
is_al Lt = false
is_al Gt = false
is_al Le = false
is_al Al = true
is_al Nv = false
