-- `reaches` walks to an instruction. The loop's invariant: it has come to index j.
-- Assumes nothing.
use Prim.Native.Nat.{◌-◌, ◌≤◌}
use Rattle.file_blocks.specs.Read.{instrs_of}
use Rattle.emit_reasons.proofs.Reading.{Coming}
use Rattle.emit_reasons.proofs.walk.reaches.Given as goal

abbrev pub invariant-loop-j : goal.invariant-loop-j
invariant-loop-j l =
    Coming l.region (instrs_of l.file l.block l.first) l.index l.j
