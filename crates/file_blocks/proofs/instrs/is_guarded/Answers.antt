-- `is_guarded` tells regions 8 and 0 from others.
-- Assumes nothing.
use Rattle.std.proofs.Common.{◌≡◌, ℕ, Bool, false, not, ◌||◌, eqb, sym, ap, subst, eq-eqb, ne_eqb}
use Rattle.file_blocks.specs.Address.{outside_rom_bios}
use Rattle.file_blocks.proofs.instrs.is_guarded.Goals as goal

pub returns-then-region-eq8 : goal.returns-then-region-eq8
unfolding outside_rom_bios
returns-then-region-eq8 c =
    let s = c.region_of-region in
    subst (λ (r : ℕ). false ≡ not (eqb r 8 || eqb r 0)) s.ensures
    (sym (ap (λ (t : Bool). not (t || eqb s.result 0)) (eq-eqb s.result 8 c.if-region-eq8.true)))

pub returns : goal.returns
unfolding outside_rom_bios
returns c =
    let s = c.region_of-region in
    subst (λ (r : ℕ). not (eqb s.result 0) ≡ not (eqb r 8 || eqb r 0)) s.ensures
    (sym (ap (λ (t : Bool). not (t || eqb s.result 0)) (ne_eqb s.result 8 c.if-region-eq8.false)))
