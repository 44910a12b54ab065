-- The body of a block of an accepted file, by its record, and its code by what stands before its
-- records. Assumes nothing.
use Rattle.std.proofs.Common.{◌≡◌, ℕ, Bool, true, false, cond, List, [], map, get_or, sym, refl, ap, ◌∙◌, subst, Option as Found, Some}
use mathlib.Core.Option
use mathlib.Core.Option.{Option, none, some}
use package.native.Mathlib.Omega.{arith}
use Rattle.file_blocks.specs.declared.read.BlockRecord.{BlockRecord}
use Rattle.file_records.specs.Trailer.{block_start}
use Rattle.file_records.specs.BlockRecord.{length_of, count_sum}
use Rattle.file_blocks.specs.Parse.{block_at, blocks_of}
use Rattle.file_blocks.specs.Read.{record_at, found_block, code_bytes, IsBlock}
use Rattle.file_blocks.proofs.Accepted.{Reads, length_of_lem, record_reads}
use Rattle.base_hash.specs.Fnv.{fnv64, hash_multiplier}
use Rattle.file_blocks.proofs.IsBlock.{nth_block, block_inside, block_record}
use Rattle.base_lists.proofs.Places.{map_at}
use Rattle.base_text.specs.Wrote.{Wrote}
use Rattle.base_text.proofs.Laws.{seq, wrote_as}
use Rattle.c_tree.specs.Stmt.{guard, common, Code, end, ◌⨾◌, when}
use Rattle.c_tree.specs.Print.{code_text}
use Rattle.lower_forms.specs.Forms.{Body}
use Rattle.lower_forms.specs.Block.{body_of}
use Rattle.lower_units.specs.Block.{body_length, nl, sp, code_from, defer, under_guard, block_code}
use Rattle.file_blocks.specs.Address.{outside_rom_bios}
use Rattle.lower_units.specs.Units.{default_body}
use Rattle.lower_units.specs.Measured.{hash_if, hashed_if}
use Rattle.emit_flow.proofs.Blocks.{guard_after}
use Rattle.plan_members.specs.Prepared.{HoldsPlan}
use Rattle.emit_block.specs.declared.member.Member.{Member}
use Rattle.emit_block.specs.Walk.{IsBody, IsMember}

module _ {f : List ℕ} {i : ℕ} {r : BlockRecord} {first : ℕ} (is : IsBlock f i r first)
    (hashing : Bool) where
  -- the body of block i, as it is written or measured
  abbrev pub body_here : Body
  body_here = hashed_if hashing (get_or (map (body_of hash_multiplier) (blocks_of f)) i default_body)

  -- its record has its fields
  reads : Reads f (block_at f (block_start f i) first) r
  reads =
      rw (block_record is, is.starts)
      (record_reads f (blocks_of f) is.accepted i (block_inside is))

  -- it is made from them
  body_made : get_or (map (body_of hash_multiplier) (blocks_of f)) i default_body
      ≡ body_of hash_multiplier (block_at f (block_start f i) first)
  body_made =
      map_at (body_of hash_multiplier) (blocks_of f) i (block_at f 0 0) default_body
      (omega (arith, block_inside is, length_of_lem f (blocks_of f) is.accepted))
      ∙ ap (body_of hash_multiplier)
      (nth_block f i (block_at f 0 0) (block_inside is)
      ∙ ap (block_at f (block_start f i)) (sym is.starts))

  made : IsBody f (record_at f (block_start f i)) first
      (hashed_if hashing (body_of hash_multiplier (block_at f (block_start f i) first)))
  unfolding body_of block_at record_at
  made =
      record {
        addr = refl;
        thumb = refl;
        count = sym reads.count ∙ ap (λ (x : BlockRecord). x.count) (block_record is);
        forms = refl;
        pending = refl;
      }

  pub is_body : IsBody f r first body_here
  is_body =
      subst (λ (b : Body). IsBody f r first (hashed_if hashing b)) (sym body_made)
      (subst (λ (x : BlockRecord). IsBody f x first
      (hashed_if hashing (body_of hash_multiplier (block_at f (block_start f i) first))))
      (sym (block_record is)) made)

  hash_law : body_here.hash
      ≡ hash_if hashing
      (Option.map (fnv64 hash_multiplier) (cond r.present (some (code_bytes f r)) none))
  unfolding body_of
  hash_law =
      ap (λ (b : Body). hash_if hashing b.hash) body_made
      ∙ ap (λ (c : Option (List ℕ)). hash_if hashing (Option.map (fnv64 hash_multiplier) c))
      reads.code

  -- its hash, if there are code bytes
  pub hash_there : r.present ≡ true
      → body_here.hash ≡ some (cond hashing (fnv64 hash_multiplier (code_bytes f r)) 0)
  hash_there e = hash_law
      ∙ ap (λ (p : Bool). hash_if hashing
      (Option.map (fnv64 hash_multiplier) (cond p (some (code_bytes f r)) none))) e

  pub hash_absent : r.present ≡ false → body_here.hash ≡ none
  hash_absent e = hash_law
      ∙ ap (λ (p : Bool). hash_if hashing
      (Option.map (fnv64 hash_multiplier) (cond p (some (code_bytes f r)) none))) e

-- whether a body has a guard, and its length, by its record
module _ {f : List ℕ} {r : BlockRecord} {first : ℕ} {b : Body} (body : IsBody f r first b) where
  pub guarded_by : (g : Bool) → g ≡ outside_rom_bios r.addr → outside_rom_bios b.addr ≡ g
  guarded_by g e = ap outside_rom_bios body.addr ∙ sym e

  pub length_by : (n : ℕ) → n ≡ length_of r.count r.thumb → body_length b ≡ n
  length_by n e = rw (body.count, body.thumb) (sym e)

-- a block of the plan, as the walk has it
pub block_here : {f work : List ℕ} {m : Member} {ks : List ℕ} {r : BlockRecord} {first : ℕ}
    (q : Found BlockRecord) → IsMember f work m ks
    → q ≡ found_block f m.index → q ≡ Some r
    → ((g : List ℕ) (limit : ℕ) → HoldsPlan g m.rows.blocks limit work
    → first ≡ count_sum g m.index)
    → IsBlock f m.index r first
block_here {f} q s e g starts =
    record {
      accepted = s.rows.ready.accepted;
      found = sym e
          ∙ g;
      starts = starts f s.limit s.rows.ready;
    }

guarded_code : (ks : List ℕ) (b : Body) → outside_rom_bios b.addr ≡ true → (h : Option ℕ)
    → b.hash ≡ h → block_code ks b ≡ under_guard ks b h
unfolding block_code
guarded_code ks b e h s =
    ap (λ (g : Bool). cond g (under_guard ks b b.hash) (code_from ks b 0 b.forms)) e
    ∙ ap (under_guard ks b) s

module _ {o o₁ : List ℕ} {at p : ℕ} (ks : List ℕ) (b : Body) where
  -- in BIOS and ROM there is nothing before the records
  pub code_bare : outside_rom_bios b.addr ≡ false
      → Wrote o at (code_text (code_from ks b 0 b.forms)) o₁ p
      → Wrote o at (code_text (block_code ks b)) o₁ p
  unfolding block_code
  code_bare e w = rw e w

  -- without code bytes the interpreter has the block
  pub code_deferred : outside_rom_bios b.addr ≡ true → b.hash ≡ none
      → Wrote o at (code_text (under_guard ks b none)) o₁ p
      → Wrote o at (code_text (block_code ks b)) o₁ p
  code_deferred e h w =
      subst (λ (c : Code). Wrote o at (code_text c) o₁ p) (sym (guarded_code ks b e none h)) w

  -- the guard, and the records after it
  pub code_guarded : {o₂ : List ℕ} {q : ℕ} (n h : ℕ) → outside_rom_bios b.addr ≡ true
      → body_length b ≡ n → b.hash ≡ some h
      → Wrote o at
      (code_text
      (sp 4 ⨾ when common true (guard b.addr n h) (sp 1 ⨾ defer b (sp 1 ⨾ end)) (nl ⨾ end)))
      o₁ p
      → Wrote o₁ p (code_text (code_from ks b 0 b.forms)) o₂ q
      → Wrote o at (code_text (block_code ks b)) o₂ q
  code_guarded {o₂} {q} n h e l s v w =
      let before =
      subst (λ (m : ℕ). Wrote o at
      (code_text
      (sp 4 ⨾ when common true (guard b.addr m h) (sp 1 ⨾ defer b (sp 1 ⨾ end)) (nl ⨾ end)))
      o₁ p) (sym l) v in
      subst (λ (c : Code). Wrote o at (code_text c) o₂ q) (sym (guarded_code ks b e (some h) s))
      (wrote_as (seq before w) (sym (guard_after ks b h [])))
