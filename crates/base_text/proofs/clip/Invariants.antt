-- `clip` meets its contract: after i turns what fits of the first i bytes of s is laid over part.
use Rattle.std.proofs.Common.{◌≡◌, take}
use Rattle.base_text.specs.Wrote.{overlay}
use Rattle.base_text.proofs.clip.Given as goal

abbrev pub invariant-loop-i : goal.invariant-loop-i
invariant-loop-i l = l.part ≡ overlay l.initial.part 0 (take l.i l.s)
