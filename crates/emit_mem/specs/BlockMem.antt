-- Steps: the lines of a BlockMem by its fields and the bytes that its registers take.
use Rattle.std.specs.Prelude.{ℕ, Bool, [], ◌∷◌}
use Rattle.armv4t.specs.declared.Instr.{Instr}
use Rattle.armv4t.specs.RegisterList.{is_listed}
use Rattle.c_tree.specs.Expr.{x-base, x-addr, reg, Expr, get}
use Rattle.lower_forms.specs.Forms.{Lines}
use Rattle.lower_forms.specs.InlineBody.{list_if, each_on_line, let32, set_reg, listed, moved_base}
use Rattle.lower_forms.specs.InlineBody.{start, stored_reg, loads_or_stores, block_mem_body}
use Rattle.emit_mem.specs.declared.block_mem.BlockTransfer.{BlockTransfer}
use Rattle.emit_mem.specs.declared.transfers.Stored.{Stored}

-- the line that writes the base back, if it is
abbrev pub base_back : Bool → BlockTransfer → ℕ → Lines
base_back back m total = each_on_line (list_if back (set_reg m.rn (moved_base m.up total)))

-- the lines of the base and of the lowest address
abbrev pub base_lines : BlockTransfer → ℕ → Lines
base_lines m total =
    each_on_line
    (let32 x-base (get (reg m.rn)) ∷ let32 x-addr (start m.up m.pre total) ∷ [])

-- the lines after these, of a load or of a store
abbrev pub moves : Bool → Instr → BlockTransfer → ℕ → Lines
moves load i m total =
    loads_or_stores load i m.rn m.writeback (is_listed m.rlist m.rn)
    (moved_base m.up total) (listed m.rlist 16)

-- all lines
abbrev pub block_body : Instr → BlockTransfer → Lines
block_body i m =
    block_mem_body i m.load m.rn (is_listed m.rlist m.rn) m.pre m.up m.writeback
    (listed m.rlist 16)

-- what a store stores of a register
abbrev pub stored_of : Stored → ℕ → Expr
stored_of s = stored_reg s.i s.rn s.writeback s.lowest (moved_base s.up s.total)
