-- `emit_block` writes the guard of a block and its records, by its region and its code bytes.
-- Assumes nothing.
use Rattle.std.proofs.Common.{true, false, sym, ap, ◌∙◌, arith}
use mathlib.Core.Option.{some}
use borrow.Author.Tests.{not-true, not-false}
use Rattle.file_blocks.specs.Read.{IsBlock}
use Rattle.file_blocks.proofs.IsBlock.{missing}
use Rattle.emit_block.proofs.Bodies.{body_here, is_body, hash_there, hash_absent, guarded_by}
use Rattle.emit_block.proofs.Bodies.{length_by, block_here, code_bare, code_deferred}
use Rattle.emit_block.proofs.Bodies.{code_guarded}
use Rattle.emit_block.proofs.block.emit_block.Goals as goal

pub returns-in_default : goal.returns-in_default
returns-in_default c =
    λ ks s. absurd
    (omega (
      arith,
      missing _ s.rows.ready.accepted _
          (sym c.block_at.ensures ∙ c.in_default.is),
      c.requires.1,
      c.requires.0.0.0.2,
    ))

pub returns-then-not-is_guarded : goal.returns-then-not-is_guarded
returns-then-not-is_guarded c =
    let v = c.args in
    λ ks s.
    let is : IsBlock v.file.now v.m.index _ c.first_of.result =
    block_here _ s c.block_at.ensures c.in-Some.is c.first_of.ensures
    in
    let body = is_body is v.hashing in
    let b = body_here is v.hashing in
    code_bare ks b
    (guarded_by body false
    (sym (c.if-not-is_guarded.true) ∙ c.is_guarded.ensures))
    (c.emit_records.ensures ks b (record { stands = s; is = is; body = body }))

pub returns-then-not-block : goal.returns-then-not-block
returns-then-not-block c =
    let v = c.args in
    λ ks s.
    let is : IsBlock v.file.now v.m.index _ c.first_of.result =
    block_here _ s c.block_at.ensures c.in-Some.is c.first_of.ensures
    in
    let body = is_body is v.hashing in
    let b = body_here is v.hashing in
    code_deferred ks b
    (guarded_by body true
    (sym (c.if-not-is_guarded.false) ∙ c.is_guarded.ensures))
    (hash_absent is v.hashing (not-true _ c.if-not-block.true))
    (c.emit_defer.ensures ks b body.addr)

pub emit_records-requires-2 : goal.emit_records-requires-2
emit_records-requires-2 c =
    c.requires

pub returns : goal.returns
returns c =
    let v = c.args in
    λ ks s.
    let is : IsBlock v.file.now v.m.index _ c.first_of.result =
    block_here _ s c.block_at.ensures c.in-Some.is c.first_of.ensures
    in
    let body = is_body is v.hashing in
    let b = body_here is v.hashing in
    code_guarded ks b _ _
    (guarded_by body true
    (sym (c.if-not-is_guarded.false) ∙ c.is_guarded.ensures))
    (length_by body _ c.length_of.ensures)
    (hash_there is v.hashing (not-false _ c.if-not-block.false)
    ∙ ap some (sym c.guard_hash-h.ensures))
    (c.emit_guard-p.ensures b body.addr)
    (c.emit_records-2.ensures ks b (record { stands = s; is = is; body = body }))
