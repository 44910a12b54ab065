-- `guard_hash` hashes the code bytes, or leaves it.
-- Assumes nothing.
use Rattle.std.proofs.Common.{Bool, cond, sym, ap, ◌∙◌}
use Rattle.file_blocks.specs.Read.{code_bytes}
use Rattle.base_hash.specs.Fnv.{fnv64, hash_multiplier}
use Rattle.emit_block.proofs.block.guard_hash.Goals as goal

pub returns-then-hashing : goal.returns-then-hashing
returns-then-hashing c = c.hash.ensures ∙ ap (fnv64 hash_multiplier) c.code_bytes.ensures
    ∙ sym (ap
    (λ (h : Bool). cond h
    (fnv64 hash_multiplier
    (code_bytes c.args.file.now
    c.args.block)) 0) c.if-hashing.true)
