-- `put_reason` writes the words of a reason.
-- Assumes nothing.
use mathlib.Core.Path.{refl}
use Rattle.base_text.proofs.Laws.{wrote_as}
use Rattle.emit_sentences.proofs.put_reason.Goals as goal

pub returns-in-UnpairedHalf : goal.returns-in-UnpairedHalf
returns-in-UnpairedHalf c = rw c.in-UnpairedHalf.is (wrote_as
    c.put.ensures refl)

pub returns-in-ConditionalExit : goal.returns-in-ConditionalExit
returns-in-ConditionalExit c = rw c.in-ConditionalExit.is (wrote_as
    c.put-in-ConditionalExit.ensures refl)

pub returns-in-BiosExit : goal.returns-in-BiosExit
returns-in-BiosExit c = rw c.in-BiosExit.is (wrote_as
    c.put-in-BiosExit.ensures refl)

pub returns-in-PcResult : goal.returns-in-PcResult
returns-in-PcResult c = rw c.in-PcResult.is (wrote_as
    c.put-in-PcResult.ensures refl)

pub returns-in-RegisterShift : goal.returns-in-RegisterShift
returns-in-RegisterShift c = rw c.in-RegisterShift.is (wrote_as
    c.put-in-RegisterShift.ensures refl)

pub returns-in-ExtendOffset : goal.returns-in-ExtendOffset
returns-in-ExtendOffset c = rw c.in-ExtendOffset.is (wrote_as
    c.put-in-ExtendOffset.ensures refl)

pub returns-in-UserRegisters : goal.returns-in-UserRegisters
returns-in-UserRegisters c = rw c.in-UserRegisters.is (wrote_as
    c.put-in-UserRegisters.ensures refl)

pub returns-in-EmptyList : goal.returns-in-EmptyList
returns-in-EmptyList c = rw c.in-EmptyList.is (wrote_as
    c.put-in-EmptyList.ensures refl)

pub returns-in-PcBase : goal.returns-in-PcBase
returns-in-PcBase c = rw c.in-PcBase.is (wrote_as
    c.put-in-PcBase.ensures refl)

pub returns-in-PcLoaded : goal.returns-in-PcLoaded
returns-in-PcLoaded c = rw c.in-PcLoaded.is (wrote_as
    c.put-in-PcLoaded.ensures refl)

pub returns-in-NoNativeForm : goal.returns-in-NoNativeForm
returns-in-NoNativeForm c = rw c.in-NoNativeForm.is (wrote_as
    c.put-in-NoNativeForm.ensures refl)
