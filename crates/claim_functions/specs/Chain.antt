-- To be believed: what an execution that returns carries out: blocks of a group, one after the
-- other.
use Rattle.std.specs.Prelude.{ℕ, ◌+◌, ◌≡◌}
use mathlib.Core.List.{List, Memᴰ}
use Rattle.std.proofs.Math.Option.{some}
use Rattle.std.proofs.Math.ListN.{get_elem?}
use Rattle.armv4t.specs.Bit0.{clear_bit0}
use Rattle.file_blocks.specs.Parse.{Block, block_key}
use Rattle.file_blocks.specs.Address.{region}
use Rattle.plan_groups.specs.Plan.{groups}
use Rattle.c_meaning.specs.State.{State, Later}
use Rattle.armv4t_manual.specs.Machine.{Machine}
use Rattle.lower_forms.specs.Agree.{Agrees}
use Rattle.claim_meaning.specs.Block.{Carries}

-- block d shares its group with block i, or is it
abbrev pub SameGroup : ℕ → List Block → ℕ → Block → Type 0
SameGroup limit bs i d = (g : List ℕ) × Memᴰ g (groups limit bs) × Memᴰ i g
    × ((j : ℕ) × Memᴰ j g × (get_elem? bs j ≡ some d))

-- a state of C's agrees with a machine that goes on at a key: its registers, flags and memory are
-- the machine's, and c[15] has the key's address
pub record Reaches (z : State) (out : Machine × ℕ) : Type 0 where
  pub same : Agrees z out.0
  pub pc : z.c 15 ≡ clear_bit0 out.1

-- step k is what the call of interp_one with the number k does, counted over the whole execution;
-- Member: the blocks that may be carried out
module _ (step : ℕ → ℕ → Machine → Machine × ℕ) (multiplier : ℕ) (Member : Block → Type 0) where
  -- Chain out n k z m: from the text of the block with the key k on, in the state z and with the
  -- machine m, and n calls of interp_one made before, blocks are carried out one after the other,
  -- each as the claim on a block's text says; the last leads to out
  pub data Chain (out : Machine × ℕ) : ℕ → ℕ → State → Machine → Type 0 where
    c_last : {n k : ℕ} {z : State} {m : Machine} (b : Block) (used : ℕ) → Member b → block_key b ≡ k
        → Carries (λ i. step (n + i)) (region b.addr) multiplier b z m out used
        → Chain out n k z m
    -- the next one has the key that this one leads to, and starts in a later state that agrees with
    -- what this one leaves
    c_more : {n k : ℕ} {z : State} {m : Machine} (b : Block) (used : ℕ) (next : Machine × ℕ)
        (y : State) → Member b → block_key b ≡ k
        → Carries (λ i. step (n + i)) (region b.addr) multiplier b z m next used
        → Later z y → Reaches y next → Chain out (n + used) next.1 y next.0
        → Chain out n k z m
