-- A text is as long with 0 in the place of each hash, and the keys are the same: what is measured
-- instead of a unit has the unit's length.
use mathlib.Core.Path.{◌≡◌, refl, sym, ap, ◌∙◌}
use Prim.Native.Nat.{ℕ, suc, ◌+◌}
use mathlib.Core.Bool.{Bool, true, false, cond}
use mathlib.Core.List.{List, [], ◌∷◌, map}
use mathlib.Core.Option.{Option, none, some}
use native.Mathlib.Omega.{arith}
use lib.ListN.{length, length-append}
use Rattle.base_text.specs.Doc.{Doc, nothing, raw, text, dec, hex, hex8, hex16, ◌▸◌, chars, decimal}
use Rattle.base_text.specs.Doc.{hexadecimal, hexadecimal8, hexadecimal16, print}
use Rattle.base_text.proofs.Numerals.{length_fixed}
use Rattle.c_tree.specs.Stmt.{Owner, common, record_mark, call, Code, end, ◌⨾◌, when, braces, ◌⧺◌}
use Rattle.c_tree.specs.Stmt.{block, Top, function}
use Rattle.c_tree.specs.Print.{cases_text, code_text, unit_text}
use Rattle.lower_forms.specs.Forms.{Form, shell, records_in, Body}
use Rattle.lower_units.specs.Block.{body_key, nl, sp, lines, closing, native_text, shell_code}
use Rattle.lower_units.specs.Block.{code_from, under_guard, block_code}
use Rattle.file_blocks.specs.Address.{outside_rom_bios}
use Rattle.lower_units.specs.Units.{with_locals, emit_block, labelled, group_code, forwarders}
use Rattle.lower_units.specs.Units.{emit_group, text_of}
use Rattle.lower_units.specs.Measured.{hash_if, hashed_if, measured}

-- the length of a doc by its pieces: that of a hash is 16, whatever it is
abbrev size : Doc → ℕ
size nothing = 0
size (raw s) = length s
size (text s) = length (chars s)
size (dec n) = length (decimal n)
size (hex n) = length (hexadecimal n)
size (hex8 n) = length (hexadecimal8 n)
size (hex16 n) = 16
size (a ▸ b) = size a + size b

length_size : (d : Doc) → length (print d) ≡ size d
unfolding print hexadecimal16
length_size nothing = refl
length_size (raw s) = refl
length_size (text s) = refl
length_size (dec n) = refl
length_size (hex n) = refl
length_size (hex8 n) = refl
length_size (hex16 n) = length_fixed 16 16 n
length_size (a ▸ b) = omega (arith, length-append (print a) (print b), length_size a, length_size b)

-- code after code
size_append : (c d : Code) → size (code_text (c ⧺ d)) ≡ size (code_text c) + size (code_text d)
size_append end d = omega arith
size_append (s ⨾ c) d = omega (arith, size_append c d)
size_append (when o n t b c) d = omega (arith, size_append c d)
size_append (braces b c) d = omega (arith, size_append c d)

-- a body as it is written is itself
pub hashed_written : (b : Body) → hashed_if true b ≡ b
hashed_written b =
    ap (λ (h : Option ℕ). record {
      addr = b.addr;
      thumb = b.thumb;
      count = b.count;
      hash = h;
      forms = b.forms;
      pending = b.pending;
    }) (go b.hash)
  where
    go : (h : Option ℕ) → hash_if true h ≡ h
    go none = refl
    go (some h) = refl

module _ (written : Bool) where
  -- nothing after the guard shows a hash
  code_hashed : (ks : List ℕ) (b : Body) (i : ℕ) (rs : List Form)
      → code_from ks (hashed_if written b) i rs ≡ code_from ks b i rs
  unfolding code_from closing
  code_hashed ks b i [] = refl
  code_hashed ks b i (Form.native r ∷ rs) =
      ap (λ (c : Code). record_mark (body_key b) i (records_in r)
      ⨾ native_text ks b.addr (Owner.native_of (body_key b)) r c)
      (code_hashed ks b (i + records_in r) rs)
  code_hashed ks b i (shell h t k ∷ []) = refl
  code_hashed ks b i (shell h t k ∷ r ∷ rs) =
      ap (λ (c : Code). lines common 4 t (shell_code b i k c)) (code_hashed ks b (i + 1) (r ∷ rs))

  code_size : (ks : List ℕ) (b : Body)
      → size (code_text (code_from ks (hashed_if written b) 0 b.forms))
      ≡ size (code_text (code_from ks b 0 b.forms))
  code_size ks b = ap (λ (c : Code). size (code_text c)) (code_hashed ks b 0 b.forms)

  guard_size : (ks : List ℕ) (b : Body) (h : Option ℕ)
      → size (code_text (under_guard ks (hashed_if written b) (hash_if written h)))
      ≡ size (code_text (under_guard ks b h))
  unfolding under_guard
  guard_size ks b none = refl
  guard_size ks b (some h) = omega (arith, code_size ks b)

  block_size : (ks : List ℕ) (b : Body)
      → size (code_text (block_code ks (hashed_if written b))) ≡ size (code_text (block_code ks b))
  unfolding block_code outside_rom_bios
  block_size ks b = go (outside_rom_bios b.addr)
    where
      go : (g : Bool)
          → size (code_text
          (cond g (under_guard ks (hashed_if written b) (hash_if written b.hash))
          (code_from ks (hashed_if written b) 0 b.forms)))
          ≡ size (code_text (cond g (under_guard ks b b.hash) (code_from ks b 0 b.forms)))
      go true = guard_size ks b b.hash
      go false = code_size ks b

  pub hashed_keys : (bs : List Body) → map body_key (map (hashed_if written) bs) ≡ map body_key bs
  hashed_keys [] = refl
  hashed_keys (b ∷ bs) = ap (λ (ks : List ℕ). body_key b ∷ ks) (hashed_keys bs)

  labelled_size : (ks : List ℕ) (bs : List Body)
      → size (code_text (labelled ks (map (hashed_if written) bs))) ≡ size (code_text (labelled ks bs))
  unfolding labelled
  labelled_size ks [] = refl
  labelled_size ks (b ∷ bs) =
      omega (
        arith,
        size_append (block_code ks (hashed_if written b))
            (nl ⨾ labelled ks (map (hashed_if written) bs)),
        size_append (block_code ks b) (nl ⨾ labelled ks bs),
        block_size ks b,
        labelled_size ks bs,
      )

  -- the functions that enter a group stay: they show keys alone
  pub forwarders_hashed : (k n : ℕ) (bs : List Body)
      → forwarders k n (map (hashed_if written) bs) ≡ forwarders k n bs
  unfolding forwarders
  forwarders_hashed k n [] = refl
  forwarders_hashed k n (b ∷ bs) =
      ap (λ (ts : List Top). function (block (body_key b)) (sp 1 ⨾ call k n ⨾ sp 1 ⨾ end) ∷ ts)
      (forwarders_hashed k (suc n) bs)

  group_size : (bs : List Body)
      → size (unit_text (emit_group (map (hashed_if written) bs))) ≡ size (unit_text (emit_group bs))
  unfolding emit_group emit_block group_code with_locals
  group_size [] = refl
  group_size (b ∷ []) = omega (arith, block_size [] b)
  group_size (b ∷ c ∷ bs) =
      let all : List Body = b ∷ c ∷ bs in
      omega (
        arith,
        ap (λ (ks : List ℕ). size (cases_text 2 ks)) (hashed_keys bs),
        ap (λ (ks : List ℕ). size (code_text (labelled ks (map (hashed_if written) all))))
            (hashed_keys all),
        labelled_size (map body_key all) all,
        ap (λ (ts : List Top). size (unit_text ts)) (forwarders_hashed (body_key b) 0 all),
      )

  -- a group's text is as long
  pub hashed_length : (bs : List Body)
      → length (text_of (emit_group (map (hashed_if written) bs))) ≡ length (text_of (emit_group bs))
  unfolding text_of
  hashed_length bs = length_size (unit_text (emit_group (map (hashed_if written) bs))) ∙ group_size bs
      ∙ sym (length_size (unit_text (emit_group bs)))

-- so what is measured instead of a group has its length
pub measured_length : (bs : List Body)
    → length (text_of (emit_group (map measured bs))) ≡ length (text_of (emit_group bs))
measured_length bs = hashed_length false bs
