-- To be believed: A3.2 The condition field.
use Rattle.std.specs.Prelude.{◌≡◌, refl, Bool, true, false, not, ◌&&◌, ◌||◌}
use Rattle.std.specs.Bool.{beq}
use Rattle.armv4t.specs.declared.Cond.{Cond}
use Rattle.armv4t.specs.declared.Cond.TheVariants.{Eq, Ne, Cs, Cc, Mi, Pl, Vs, Vc, Hi, Ls, Ge, Lt}
use Rattle.armv4t.specs.declared.Cond.TheVariants.{Gt, Le, Al, Nv}
use Rattle.armv4t_manual.specs.Machine.{Machine, set_flags}

-- ConditionPassed (table A3-1). NV is unpredictable in ARMv4 (A3.2.1): here it never passes
abbrev pub passed : Cond → Machine → Bool
passed Eq m = m.z
passed Ne m = not m.z
passed Cs m = m.c
passed Cc m = not m.c
passed Mi m = m.n
passed Pl m = not m.n
passed Vs m = m.v
passed Vc m = not m.v
passed Hi m = m.c && not m.z
passed Ls m = not m.c || m.z
passed Ge m = beq m.n m.v
passed Lt m = not (beq m.n m.v)
passed Gt m = not m.z && beq m.n m.v
passed Le m = m.z || not (beq m.n m.v)
passed Al m = true
passed Nv m = false

-- C set alone is higher, and C with Z lower or same
higher : (m : Machine) → passed Hi (set_flags false false true false m) ≡ true
higher m = refl

lower_or_same : (m : Machine) → passed Ls (set_flags false true true false m) ≡ true
lower_or_same m = refl
