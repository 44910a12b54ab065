-- Examples: what C99 makes of small trees, computed.
use Rattle.std.specs.Prelude.{ℕ, ◌+◌, ◌≡◌, refl, true, false, [], ◌∷◌}
use Rattle.std.proofs.Math.Option.{Option, none, some}
use Rattle.base_words.specs.Word.{AND, OR, EOR}
use Rattle.c_tree.specs.Expr.{s8, s16, s32, u32, s64, word, udec, int, x-r, x-a, x-pc, reg, var}
use Rattle.c_tree.specs.Expr.{mul, add}
use Rattle.c_tree.specs.Expr.{sub, shl, shr, land, lor, w8, w16, w32, lit, get, par, bin, cast, ror}
use Rattle.c_tree.specs.Expr.{read, Expr}
use Rattle.c_tree.specs.Stmt.{is, plus, f-nz, f-c, f-nz64, local, declare, adds, set, discard}
use Rattle.c_tree.specs.Stmt.{run, write, call, switch}
use Rattle.c_tree.specs.Stmt.{gate, other, common, plain, goto, ret, ret_if, interp, ret_interp, end}
use Rattle.c_tree.specs.Stmt.{◌⨾◌, when, braces}
use Rattle.c_tree.specs.Preamble.{v32}
use Rattle.c_meaning.specs.Types.{common_type, convert}
use Rattle.c_meaning.specs.State.{bind, update, State, empty, load, store}
use Rattle.c_meaning.specs.Eval.{eval, eval_as}
use Rattle.c_meaning.specs.Exec.{Goes, on, to, back, Outcome, ended, returned, exec}
use Rattle.c_meaning.specs.Exec.{others, asks, step, runs}
use Rattle.c_meaning.specs.Perform.{execs, evaluate, perform}
use Rattle.c_meaning.specs.Helpers.{called, rotated}
use Rattle.c_meaning.specs.Helpers as H

-- c[k] is k, but for c[16], the flags, which are clear; memory bytes are 0xfe; the runtime says
-- yes, and its interpreter sets c[0] to 9 and answers 8, then to 10 and answers 9, and so on
abbrev begin : State
begin =
    record {
      c = update 16 0 (λ (k : ℕ). k);
      mem = λ a. 0xfe;
      scopes = empty ∷ [];
      answers = λ k. 1;
      interpreter = λ k c mem. record { c = update 0 (9 + k) c; mem = mem; answer = 8 + k };
    }

-- c[k] after statements
abbrev after : ℕ → Option State → Option ℕ
after k o = bind o λ z. some (z.c k)

-- c[k] after code, and where it led
abbrev after_code : ℕ → Outcome → Option (ℕ × Goes)
after_code k o = bind o λ q. some (q.0.c k, q.1)

-- an int shifted to the right keeps its sign; as unsigned it does not
asr : evaluate (cast u32 (par (bin shr (cast s32 (lit word 0x80000000)) (lit int 31)))) begin
    ≡ some 0xffffffff
unfolding evaluate eval
asr = refl

lsr : evaluate (bin shr (lit word 0x80000000) (lit int 31)) begin ≡ some 1
unfolding evaluate eval
lsr = refl

-- a count of 32 is undefined, and so is a signed outcome that does not fit
by_32 : evaluate (bin shl (get (reg 1)) (lit udec 32)) begin ≡ none
unfolding evaluate eval
by_32 = refl

too_large : evaluate (bin add (lit int 2147483647) (lit int 1)) begin ≡ none
unfolding evaluate eval
too_large = refl

minus_times : evaluate (bin mul (cast s32 (lit word 0xffffffff)) (cast s32 (lit word 0x80000000)))
    begin ≡ none
unfolding evaluate eval
minus_times = refl

below_zero : evaluate (bin sub (lit int 1) (lit int 3)) begin ≡ some 0xfffffffe
unfolding evaluate eval
below_zero = refl

-- unsigned sums are cut to 32 bits
wraps : evaluate (bin add (lit word 0xffffffff) (get (reg 2))) begin ≡ some 1
unfolding evaluate eval
wraps = refl

-- -2 times 3, with 64 bits
signed_product : evaluate
    (bin mul (cast s64 (cast s32 (lit word 0xfffffffe))) (cast s64 (cast s32 (get (reg 3))))) begin
    ≡ some 0xfffffffffffffffa
unfolding evaluate eval
signed_product = refl

-- (uint32_t)(int32_t)(int8_t)a->read8(m, c[1])
signed_byte : evaluate (cast u32 (cast s32 (cast s8 (read w8 (get (reg 1)))))) begin
    ≡ some 0xfffffffe
unfolding evaluate eval
signed_byte = refl

-- || does not look at what is undefined after a yes, and && does
or_stops : evaluate (bin lor (get (reg 1)) (bin shl (get (reg 1)) (lit udec 32))) begin ≡ some 1
unfolding evaluate eval
or_stops = refl

and_goes_on : evaluate (bin land (get (reg 1)) (bin shl (get (reg 1)) (lit udec 32))) begin ≡ none
unfolding evaluate eval
and_goes_on = refl

-- c has 17 words
no_c17 : evaluate (get (reg 17)) begin ≡ none
unfolding evaluate eval
no_c17 = refl

-- ror32(c[3], 1u), and by 0
turned : evaluate (ror (get (reg 3)) (lit udec 1)) begin ≡ some 0x80000001
unfolding evaluate eval rotated called runs step asks exec eval_as AND OR
turned = refl

not_turned : evaluate (ror (get (reg 3)) (lit udec 0)) begin ≡ some 3
unfolding evaluate eval rotated called runs step asks exec eval_as AND OR
not_turned = refl

-- uint32_t r = op_adds(c, 0xffffffffu, c[1], 0u); c[0] = r; : 0, with Z and C
adds_flags : after 16
    (perform
    (adds x-r (lit word 0xffffffff) (get (reg 1)) (lit udec 0) ∷ set (reg 0) is (v32 x-r) ∷ [])
    begin) ≡ some 0x60000000
unfolding perform eval eval_as rotated called runs step asks exec execs others AND OR EOR
adds_flags = refl

-- 0x7fffffff + 1 has N and V
adds_overflow : after 16
    (perform (adds x-r (lit word 0x7fffffff) (get (reg 1)) (lit udec 0) ∷ []) begin)
    ≡ some 0x90000000
unfolding perform eval eval_as rotated called runs step asks exec execs others AND OR EOR
adds_overflow = refl

-- 1 + 1 with a carry is 3
adds_carry : after 0
    (perform (adds x-r (lit udec 1) (get (reg 1)) (lit udec 1) ∷ set (reg 0) is (v32 x-r) ∷ [])
    begin) ≡ some 3
unfolding perform eval eval_as rotated called runs step asks exec execs others AND OR EOR
adds_carry = refl

-- f_c(c, 1u) and f_nz(c, 0u)
flags : after 16 (perform (run f-c (lit udec 1) ∷ run f-nz (lit udec 0) ∷ []) begin)
    ≡ some 0x60000000
unfolding perform eval eval_as rotated called runs step asks exec execs others AND OR
flags = refl

-- a local without a value has none, and (void) does not ask for one; a name is not declared twice
-- in a scope, and a local not declared has no value
no_value : after 0 (perform (local (u32, x-r) ∷ set (reg 0) is (v32 x-r) ∷ []) begin) ≡ none
unfolding perform eval eval_as exec execs others
no_value = refl

discarded : after 0 (perform (local (u32, x-r) ∷ discard (u32, x-r) ∷ []) begin) ≡ some 0
unfolding perform eval eval_as exec execs others
discarded = refl

not_discarded : after 0 (perform (discard (u32, x-r) ∷ []) begin) ≡ none
unfolding perform eval eval_as exec execs others
not_discarded = refl

twice : after 0 (perform (local (u32, x-r) ∷ local (u32, x-r) ∷ []) begin) ≡ none
unfolding perform eval eval_as exec execs others
twice = refl

not_declared : after 0 (perform (set (reg 0) is (v32 x-r) ∷ []) begin) ≡ none
unfolding perform eval eval_as exec execs others
not_declared = refl

-- uint32_t r = c[1]; r += 4u; c[0] = r;
counted : after 0
    (perform
    (declare (u32, x-r) (get (reg 1)) [] ∷ set (var (u32, x-r)) plus (lit udec 4)
    ∷ set (reg 0) is (v32 x-r) ∷ []) begin) ≡ some 5
unfolding perform eval eval_as exec execs others
counted = refl

-- a->write32(m, c[4], c[5]); c[0] = a->read32(m, c[4]);
stored : after 0
    (perform (write w32 (get (reg 4)) (get (reg 5)) ∷ set (reg 0) is (read w32 (get (reg 4))) ∷ [])
    begin) ≡ some 5
unfolding perform eval eval_as exec execs others
stored = refl

-- { uint32_t r = c[1]; if (r) { c[0] = 7u; } } return c[0];
taken : after_code 0
    (H.run (braces
    (plain common (declare (u32, x-r) (get (reg 1)) [])
    ⨾ when common false (other (v32 x-r)) (plain common (set (reg 0) is (lit udec 7)) ⨾ end) end)
    (ret common (get (reg 0)) ⨾ end)) begin) ≡ some (7, back 7)
unfolding H.run eval eval_as exec execs others runs step asks
taken = refl

-- 2^32 as an int64_t is 0 in a word: by =, by += of 1 and 0xffffffff, and as what f_nz and f_c take
abbrev wide : Expr
wide = bin add (cast s64 (lit word 0xffffffff)) (lit int 1)

narrowed : after 1 (perform (set (reg 1) is wide ∷ []) begin) ≡ some 0
unfolding perform eval eval_as exec execs others
narrowed = refl

narrowed_sum : after 1 (perform (set (reg 1) plus (cast s64 (lit word 0xffffffff)) ∷ []) begin)
    ≡ some 0
unfolding perform eval eval_as exec execs others
narrowed_sum = refl

narrowed_flags : after 16 (perform (run f-nz wide ∷ run f-c wide ∷ []) begin) ≡ some 0x40000000
unfolding perform eval eval_as rotated called runs step asks exec execs others AND OR
narrowed_flags = refl

-- but not as what f_nz64 takes
wide_flags : after 16 (perform (run f-nz64 wide ∷ []) begin) ≡ some 0
unfolding perform eval eval_as rotated called runs step asks exec execs others AND OR
wide_flags = refl

-- uint32_t r = c[1], a = r; c[0] = a; : a further declarator sees the one before it
further : after 0
    (perform
    (declare (u32, x-r) (get (reg 1)) ((x-a, v32 x-r) ∷ []) ∷ set (reg 0) is (v32 x-a) ∷ [])
    begin) ≡ some 1
unfolding perform eval eval_as exec execs others
further = refl

-- (void)r names r with its type
another_type : after 0 (perform (local (u32, x-r) ∷ discard (s32, x-r) ∷ []) begin) ≡ none
unfolding perform eval eval_as exec execs others
another_type = refl

-- a function without a value ends by no goto and by no return of one; one with a value returns it
no_end : (ended (to 8) begin ≡ none) × (ended (back 8) begin ≡ none)
no_end = (refl, refl)

no_return : (returned on ≡ none) × (returned (to 8) ≡ none)
no_return = (refl, refl)

-- after its braces a local is gone
gone : after_code 0
    (H.run (braces (plain common (declare (u32, x-r) (get (reg 1)) []) ⨾ end)
    (ret common (v32 x-r) ⨾ end)) begin) ≡ none
unfolding H.run eval eval_as exec execs others runs step asks
gone = refl

-- and after those of an if
gone_if : after_code 0
    (H.run (when common false (other (get (reg 1)))
    (plain common (declare (u32, x-r) (get (reg 1)) []) ⨾ end) (ret common (v32 x-r) ⨾ end)) begin)
    ≡ none
unfolding H.run eval eval_as exec execs others runs step asks
gone_if = refl

-- uint32_t r = c[1]; { uint32_t r = r; } : the r on the right is the new one, which has no value
own_name : after_code 0
    (H.run (plain common (declare (u32, x-r) (get (reg 1)) [])
    ⨾ braces (plain common (declare (u32, x-r) (v32 x-r) []) ⨾ end) (ret common (v32 x-r) ⨾ end))
    begin) ≡ none
unfolding H.run eval eval_as exec execs others runs step asks
own_name = refl

-- the call of a group's function and its switch are not written out here
elsewhere : (after_code 0 (H.run (call 8 0 ⨾ end) begin) ≡ none)
    × (after_code 0 (H.run (switch (8 ∷ []) ⨾ end) begin) ≡ none)
unfolding H.run eval eval_as exec execs others runs step asks
elsewhere = (refl, refl)

-- if (a->chain_gate(m)) return 8u; goto L_..: the gate says yes; a test with a ! before it fails
gated : after_code 0 (H.run (ret_if common gate (lit udec 8) ⨾ goto common 9 ⨾ end) begin)
    ≡ some (0, back 8)
unfolding H.run eval eval_as exec execs others runs step asks
gated = refl

denied : after_code 0
    (H.run (when common true gate (ret common (lit udec 8) ⨾ end) (goto common 9 ⨾ end)) begin)
    ≡ some (0, to 9)
unfolding H.run eval eval_as exec execs others runs step asks
denied = refl

-- uint32_t pc; pc = a->interp_one(m); return pc;, and return a->interp_one(m);
interprets : after_code 0
    (H.run (plain common (local (u32, x-pc)) ⨾ interp 0 0 ⨾ ret common (v32 x-pc) ⨾ end) begin)
    ≡ some (9, back 8)
unfolding H.run eval eval_as exec execs others runs step asks
interprets = refl

interprets_last : after_code 0 (H.run (ret_interp 0 0 ⨾ end) begin) ≡ some (9, back 8)
unfolding H.run eval eval_as exec execs others runs step asks
interprets_last = refl

-- the second call is not the first again
interprets_twice : after_code 0
    (H.run (plain common (local (u32, x-pc)) ⨾ interp 0 0 ⨾ ret_interp 0 0 ⨾ end) begin)
    ≡ some (10, back 9)
unfolding H.run eval eval_as exec execs others runs step asks
interprets_twice = refl

-- int with unsigned int is unsigned int, unsigned int with int64_t is int64_t, and int8_t with
-- int16_t is int
int_and_unsigned : common_type s32 u32 ≡ u32
int_and_unsigned = refl

unsigned_and_long : common_type u32 s64 ≡ s64
unsigned_and_long = refl

small_ones : common_type s8 s16 ≡ s32
small_ones = refl

-- -2 as int8_t is 0xfe, as int 0xfffffffe, as int64_t with more of the sign; an unsigned 0xfffffffe
-- has zeros in front
minus_two : convert s8 s32 0xfe ≡ 0xfffffffe
minus_two = refl

minus_two_long : convert s32 s64 0xfffffffe ≡ 0xfffffffffffffffe
minus_two_long = refl

no_sign : convert u32 s64 0xfffffffe ≡ 0xfffffffe
no_sign = refl

cut : convert u32 s8 0x1234 ≡ 0x34
cut = refl

-- a word stored over the end of the address space, and read
store_wraps : load w32 (store w32 0xfffffffe 0x12345678 (λ a. 0)) 0xfffffffe ≡ 0x12345678
store_wraps = refl

store_in_order : load w16 (store w32 0x1000 0x12345678 (λ a. 0)) 0x1002 ≡ 0x1234
store_in_order = refl
