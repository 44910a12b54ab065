-- What is said of an instruction, by its reason.
-- Assumes nothing.
use Prim.Native.Nat.{ℕ}
use mathlib.Core.Path.{◌≡◌, sym, ap, ◌∙◌}
use mathlib.Core.Option.{map}
use Rattle.armv4t.specs.declared.Instr.{Instr}
use Rattle.lower_reasons.specs.declared.types.Kind.{Kind}
use Rattle.lower_reasons.specs.declared.types.Reason.{Reason}
use Rattle.lower_reasons.specs.Reasons.{kind_of, reason_of}
use Rattle.lower_reasons.specs.Said.{said_of}
use Rattle.std.specs.Prelude.{Option, None, Some}
use Rattle.emit_sentences.specs.declared.Sentence.{Sentence}
use Rattle.emit_sentences.specs.Steps.{said_by}
use Rattle.emit_reasons.specs.Steps.{why_of}

module _ (area : ℕ) (i : Instr) (why : Option Reason) (told : why_of why ≡ reason_of area i) where
  -- a shell's
  pub said_shell : (kind : Kind) (reason : Reason) → why ≡ Some reason → kind ≡ kind_of i.op
      → said_by (Some (record { addr = i.addr; kind = kind; reason = reason })) ≡ said_of area i
  said_shell kind reason g k =
      ap (λ (n : Kind). said_by (Some (record { addr = i.addr; kind = n; reason = reason }))) k
      ∙ ap
      (map
      (λ (r : Reason). record { addr = i.addr; kind = kind_of i.op; reason = r }))
      (sym (ap why_of g) ∙ told)

  -- nothing of native code
  pub said_native : why ≡ None → said_by None ≡ said_of area i
  said_native g =
      ap
      (map
      (λ (r : Reason). record { addr = i.addr; kind = kind_of i.op; reason = r }))
      (sym (ap why_of g) ∙ told)
