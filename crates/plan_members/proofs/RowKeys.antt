-- The keys of blocks, as the readers of records and rows give them.
use Rattle.std.proofs.Common.{Some, None}
use mathlib.Core.Path.{◌≡◌, refl, sym, ap, ◌∙◌}
use Prim.Native.Nat.{ℕ, ◌+◌, ◌<◌}
use native.Mathlib.Omega.{arith}
use mathlib.Core.List.{List}
use lib.ListN.{length, get_or, length-map, get_or-eq_default}
use Rattle.file_blocks.specs.declared.read.BlockRecord.{BlockRecord}
use Rattle.file_records.specs.BlockRecord.{count_sum, key_plus}
use Rattle.file_blocks.specs.Parse.{Block, block_at, blocks_of, Accepted, block_key}
use Rattle.file_blocks.specs.Read.{record_at, found_block, IsBlock}
use Rattle.file_records.specs.Trailer.{block_count}
use Rattle.file_blocks.proofs.Accepted.{length_of_lem}
use Rattle.file_blocks.specs.Address.{key_of}
use Rattle.plan_groups.specs.Plan.{groups}
use Rattle.file_blocks.proofs.IsBlock.{missing, block_inside, block_record}
use Rattle.file_blocks.proofs.OwnKey.{key_plus_lem}
use Rattle.file_blocks.proofs.Keys.{block_key_lem}
use Rattle.base_lists.proofs.Places.{map_at}
use Rattle.file_keys.specs.Order.{block_keys}
use Rattle.file_keys.proofs.Reading.{length_keys}
use Rattle.plan_members.specs.Members.{members_of, group_keys}
use Rattle.plan_members.proofs.Places.{start_next}
use Rattle.plan_members.specs.declared.group_rows.Rows.{Rows}
use Rattle.plan_members.specs.GroupRows.{IsGroup, IsRow}

-- the key of a record that was found
pub key_found : (f : List ℕ) (i : ℕ) (b : BlockRecord) (key : ℕ) → found_block f i ≡ Some b
    → key ≡ key_of b.addr b.thumb → Accepted f
    → key ≡ get_or (block_keys f) i 0
unfolding record_at
key_found f i b key found e ok =
    let is : IsBlock f i b (count_sum f i) =
    record { accepted = ok; found = found; starts = refl } in
    let inside : i < block_count f = block_inside is in
    let other : Block = block_at f 0 0 in
    e
    ∙ key_plus_lem is
    ∙ ap (λ (r : BlockRecord). key_plus r.addr r.thumb) (block_record is)
    ∙ sym (block_key_lem f (blocks_of f) ok i other inside)
    ∙ sym (map_at block_key (blocks_of f) i other 0
    (omega (arith, inside, length_of_lem f (blocks_of f) ok)))

-- and that of none
pub key_missing : (f : List ℕ) (i : ℕ) → found_block f i ≡ None → Accepted f
    → 0 ≡ get_or (block_keys f) i 0
key_missing f i e ok =
    sym (get_or-eq_default (block_keys f) 0 (omega (arith, missing f ok i e, length_keys f)))

-- the key of a member
pub key_member : (limit : ℕ) (f : List ℕ) (g k i key : ℕ) → key ≡ get_or (block_keys f) i 0
    → i ≡ get_or (members_of limit (blocks_of f) g) k 0
    → k < length (members_of limit (blocks_of f) g) → key ≡ get_or (group_keys limit f g) k 0
key_member limit f g k i key e is inside =
    e ∙ ap (λ (j : ℕ). get_or (block_keys f) j 0) is
    ∙ sym (map_at (λ (j : ℕ). get_or (block_keys f) j 0) (members_of limit (blocks_of f) g) k 0 0
    inside)

module _ {f : List ℕ} {limit : ℕ} {work : List ℕ} {g : ℕ} {r : Rows}
    (is : IsGroup f limit work g r) where
  -- a row for each member
  pub group_size : r.end ≡ r.first + length (members_of limit (blocks_of f) g)
  group_size = omega (arith, is.first, is.next, start_next (groups limit (blocks_of f)) g)

  pub keys_size : length (group_keys limit f g) ≡ length (members_of limit (blocks_of f) g)
  keys_size = length-map (members_of limit (blocks_of f) g) (λ (j : ℕ). get_or (block_keys f) j 0)

  pub key_inside : (k : ℕ) → r.first + k < r.end → k < length (group_keys limit f g)
  key_inside k h = omega (arith, keys_size, group_size)

  -- the row of the first member, where there is one, and that of member k
  pub row_first : r.first < r.end → IsRow f r.blocks limit work g 0 r.first
  row_first some =
      record {
        ready = is.ready;
        place = omega (arith, is.first);
        inside = omega (arith, group_size, some);
      }

  pub row_of : (k : ℕ) → k < length (members_of limit (blocks_of f) g)
      → IsRow f r.blocks limit work g k (r.first + k)
  row_of k inside =
      record { ready = is.ready; place = omega (arith, is.first); inside = inside }
