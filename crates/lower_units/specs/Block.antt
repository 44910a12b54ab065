-- To be believed: the tree of a block's text: transfer, emit_shell and emit_block. Code is made
-- with what stands after it as its last argument.
use Rattle.std.specs.Prelude.{ℕ, ◌+◌, ◌%◌, ◌^◌, Bool, true, false, cond, List, [], ◌∷◌, ◌++◌, leb}
use Rattle.std.proofs.Math.Option.{Option, none, some}
use Rattle.armv4t.specs.Bit0.{clear_bit0}
use Rattle.c_tree.specs.Expr.{u32, word, uhex, udec, x-t, x-pc, reg, compl, ne, band, bor, Expr}
use Rattle.c_tree.specs.Expr.{lit, par, un, bin}
use Rattle.c_tree.specs.Stmt.{is, and, or, Plain, declare, set, guard, gate, other, Owner, common}
use Rattle.c_tree.specs.Stmt.{Simple, gap, record_mark, plain, goto, ret, ret_if, interp, ret_interp}
use Rattle.c_tree.specs.Stmt.{Code, end, ◌⨾◌, when, braces}
use Rattle.c_tree.specs.Preamble.{v32}
use Rattle.file_records.specs.BlockRecord.{length_of, key_plus}
use Rattle.file_blocks.specs.Address.{outside_rom_bios}
use Rattle.base_lists.specs.Lists.{among}
use Rattle.lower_forms.specs.Operands.{flags}
use Rattle.lower_forms.specs.Block.{flush_ticks, pc_line}
use Rattle.lower_forms.specs.Forms.{Lines, Native, straight, straight_if, branch_if, jump, pair, bx}
use Rattle.lower_forms.specs.Forms.{pop, Form, shell, records_in, Body}

-- the key of a block: its address plus the Thumb bit
abbrev pub body_key : Body → ℕ
body_key b = key_plus b.addr b.thumb

-- its length in bytes
abbrev pub body_length : Body → ℕ
body_length b = length_of b.count b.thumb

-- the address after it, wrapping at 2^32
abbrev pub body_end : Body → ℕ
body_end b = (b.addr + body_length b) % 2 ^ 32

-- a line end
abbrev pub nl : Simple
nl = gap true 0

-- n spaces
abbrev pub sp : ℕ → Simple
sp n = gap false n

-- the plain statements of a line, with a space between
abbrev pub line : Owner → List Plain → Code → Code
line o [] c = c
line o (p ∷ []) c = plain o p ⨾ c
line o (p ∷ q ∷ ps) c = plain o p ⨾ sp 1 ⨾ line o (q ∷ ps) c

-- lines at an indent
abbrev pub lines : Owner → ℕ → Lines → Code → Code
lines o n [] c = c
lines o n (l ∷ ls) c = sp n ⨾ line o l (nl ⨾ lines o n ls c)

-- a goto: gated (document 01), with the chain gate before it, or plain
unfoldable pub goto_code : Bool → Owner → ℕ → ℕ → Code → Code
goto_code true o n k c = sp n ⨾ ret_if o gate (lit word k) ⨾ nl ⨾ sp n ⨾ goto o k ⨾ nl ⨾ c
goto_code false o n k c = sp n ⨾ goto o k ⨾ nl ⨾ c

-- transfer: from the block at address a, to key k, at indent n. ks: the keys of a group of several,
-- empty for a lone block. A goto if k is among them; gated if the target's address is not above the
-- block's
unfoldable pub transfer : List ℕ → ℕ → Owner → ℕ → ℕ → Code → Code
transfer ks a o n k c =
    cond (among k ks)
    (goto_code (leb (clear_bit0 k) a) o n k c)
    (sp n ⨾ ret o (lit word k) ⨾ nl ⨾ c)

-- an exit from the block at address a that nothing stands after: lines, and the transfer to a key
abbrev pub exit_code : List ℕ → ℕ → Owner → Lines → ℕ → Code
exit_code ks a o ls k = lines o 4 ls (transfer ks a o 4 k end)

-- the lines before the closing transfer: what is pending, and PC at the address after the block; in
-- an accepted file that is the one after its last instruction
abbrev pub closing_lines : Body → Lines
closing_lines b = flush_ticks b.pending ++ pc_line (body_end b)

-- the closing transfer (document 01), to the key after the block, with the lines before it
unfoldable pub closing : List ℕ → Body → Code
closing ks b = exit_code ks b.addr common (closing_lines b) (key_plus (body_end b) b.thumb)

-- t & ~nu
abbrev pub masked : ℕ → Expr
masked n = bin band (v32 x-t) (un compl (lit udec n))

-- a return at the end of a block of braces
abbrev pub leave : Owner → Expr → Code
leave o e = sp 1 ⨾ ret o e ⨾ sp 1 ⨾ end

-- what Bx does with a Thumb target
abbrev pub to_thumb : Owner → Code
to_thumb o =
    sp 1
    ⨾ line o (set (reg 16) or (lit uhex 0x20) ∷ set (reg 15) is (masked 1) ∷ [])
    (leave o (bin bor (par (masked 1)) (lit udec 1)))

-- what Bx does with an ARM target
abbrev pub to_arm : Owner → Code
to_arm o =
    gap true 6
    ⨾ line o (set (reg 16) and (un compl (lit uhex 0x20)) ∷ set (reg 15) is (masked 3) ∷ [])
    (leave o (masked 3))

-- { flags; if (e) { b } }, and c after it
abbrev pub conditional : Owner → Expr → Code → Code → Code
conditional o e b c =
    sp 4
    ⨾ braces (sp 1 ⨾ line o flags (gap true 6 ⨾ when o false (other e) b (sp 1 ⨾ end)))
    (nl ⨾ c)

-- the text of a native record, every statement with its owner; an unconditional exit drops what
-- would stand after it
unfoldable pub native_text : List ℕ → ℕ → Owner → Native → Code → Code
native_text ks a o (straight t l) c =
    lines o 4 t (sp 4 ⨾ braces (nl ⨾ lines o 8 l (sp 4 ⨾ end)) (nl ⨾ c))
native_text ks a o (straight_if t e l) c =
    lines o 4 t (conditional o e (nl ⨾ lines o 8 l (sp 6 ⨾ end)) c)
native_text ks a o (branch_if t e l k) c =
    lines o 4 t (conditional o e (sp 1 ⨾ line o l (nl ⨾ transfer ks a o 8 k (sp 6 ⨾ end))) c)
native_text ks a o (jump t k) c = exit_code ks a o t k
native_text ks a o (pair t k) c = exit_code ks a o t k
native_text ks a o (bx t e) c =
    lines o 4 t
    (sp 4
    ⨾ braces
    (sp 1 ⨾ plain o (declare (u32, x-t) e []) ⨾ gap true 6
    ⨾ when o false (other (bin band (v32 x-t) (lit udec 1))) (to_thumb o) (to_arm o))
    (nl ⨾ end))
native_text ks a o (pop t p l q e) c =
    lines o 4 t
    (sp 4 ⨾ braces (sp 1 ⨾ plain o p ⨾ nl ⨾ lines o 6 l (sp 6 ⨾ plain o q ⨾ leave o e))
    (nl ⨾ end))

-- emit_shell after its lines, for the record with index i that has others after it: the
-- interpreter, and a return where its answer is not k, the next record's key
abbrev pub shell_code : Body → ℕ → ℕ → Code → Code
shell_code b i k c =
    sp 4
    ⨾ interp (body_key b) i
    ⨾ sp 1
    ⨾ ret_if common (other (bin ne (v32 x-pc) (lit word k))) (v32 x-pc)
    ⨾ nl
    ⨾ c

-- the text of a block from the record with index i on. A shell that is the block's last record
-- returns; after an unfused half that is last stands the closing transfer
unfoldable pub code_from : List ℕ → Body → ℕ → List Form → Code
code_from ks b i [] = closing ks b
code_from ks b i (Form.native r ∷ rs) =
    record_mark (body_key b) i (records_in r)
    ⨾ native_text ks b.addr (Owner.native_of (body_key b)) r (code_from ks b (i + records_in r) rs)
code_from ks b i (shell h t k ∷ []) =
    lines common 4 t (sp 4 ⨾ ret_interp (body_key b) i ⨾ nl ⨾ cond h (closing ks b) end)
code_from ks b i (shell h t k ∷ r ∷ rs) =
    lines common 4 t (shell_code b i k (code_from ks b (i + 1) (r ∷ rs)))

-- the interpreter in the block's place
abbrev pub defer : Body → Code → Code
defer b c = plain common (set (reg 15) is (lit word b.addr)) ⨾ sp 1 ⨾ ret_interp (body_key b) 0 ⨾ c

-- a block outside regions 0 and 8: after the guard, or without code bytes the interpreter alone
unfoldable pub under_guard : List ℕ → Body → Option ℕ → Code
under_guard ks b none = sp 4 ⨾ defer b (nl ⨾ end)
under_guard ks b (some h) =
    sp 4
    ⨾ when common true (guard b.addr (body_length b) h)
    (sp 1 ⨾ defer b (sp 1 ⨾ end))
    (nl ⨾ code_from ks b 0 b.forms)

-- emit_block between its head, or label, and its close; ks: the keys of a group of several, empty
-- for a lone block
unfoldable pub block_code : List ℕ → Body → Code
block_code ks b =
    cond (outside_rom_bios b.addr)
    (under_guard ks b b.hash)
    (code_from ks b 0 b.forms)
