-- `check` answers with the first broken rule. Each return is reached only where the places before
-- it, in the order of the table, broke nothing.
use Rattle.std.proofs.Common.{ℕ, Ok, sym, ◌∙◌, ap₂}
use Rattle.std.proofs.lemmas.Result.{err_from_is_err_and}
use Rattle.file_blocks.proofs.Whole as whole
use Rattle.file_blocks.proofs.refusal.check.Goals as goal

pub returns-then-file-lt-TRAILER : goal.returns-then-file-lt-TRAILER
returns-then-file-lt-TRAILER c = whole.too_short _ c.if-file-lt-TRAILER.true

pub returns-then-not-within_limits : goal.returns-then-not-within_limits
returns-then-not-within_limits c =
    whole.over_limits _ c.if-file-lt-TRAILER.false
    (sym c.within_limits.ensures ∙ c.if-not-within_limits.true)

pub returns-then-not-trailer_right : goal.returns-then-not-trailer_right
returns-then-not-trailer_right c =
    whole.wrong_trailer _ c.if-file-lt-TRAILER.false
    (sym c.within_limits.ensures
    ∙ c.if-not-within_limits.false)
    (sym c.trailer_right.ensures ∙ c.if-not-trailer_right.true)

pub returns-in_err-check_blocks : goal.returns-in_err-check_blocks
returns-in_err-check_blocks c =
    let p = err_from_is_err_and c.from_residual.result c.from_residual.ensures.1 in
    rw (p.1, p.2)
    (whole.blocks_refused _ c.if-file-lt-TRAILER.false
    (sym c.within_limits.ensures ∙ c.if-not-within_limits.false)
    (sym c.trailer_right.ensures ∙ c.if-not-trailer_right.false) _ c.in_err-check_blocks.ensures)

pub returns-in_err-check_instrs : goal.returns-in_err-check_instrs
returns-in_err-check_instrs c =
    let r = c.from_residual-in_err-check_instrs in
    let p = err_from_is_err_and r.result r.ensures.1 in
    rw (p.1, p.2)
    (whole.instrs_refused _ c.if-file-lt-TRAILER.false
    (sym c.within_limits.ensures ∙ c.if-not-within_limits.false)
    (sym c.trailer_right.ensures ∙ c.if-not-trailer_right.false) c.in_ok-check_blocks.ensures _
    c.in_err-check_instrs.ensures)

pub returns : goal.returns
returns c =
    ap₂ (λ (b i : ℕ). Ok (record { blocks = b; instructions = i })) c.trailer_word.ensures
    c.trailer_word-2.ensures
    ∙ whole.all_kept _ c.if-file-lt-TRAILER.false
    (sym c.within_limits.ensures ∙ c.if-not-within_limits.false)
    (sym c.trailer_right.ensures ∙ c.if-not-trailer_right.false) c.in_ok-check_blocks.ensures
    c.in_ok-check_instrs.ensures
