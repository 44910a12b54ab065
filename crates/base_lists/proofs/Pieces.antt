-- A list that stands in another in one piece.
-- Assumes nothing.
use Prim.Native.Nat.{ℕ}
use mathlib.Core.Path.{◌≡◌, sym, ap, ◌∙◌, subst}
use mathlib.Core.List.Memᴰ
use mathlib.Core.List.{List, [], ◌++◌, append_assoc, flatten, Memᴰ}
use Rattle.base_lists.proofs.Order.{InOrder, order_front, order_back}

-- g stands in xs in one piece
pub record Piece (g xs : List ℕ) : Type 0 where
  pub before : List ℕ
  pub after : List ℕ
  pub is : xs ≡ before ++ (g ++ after)

module _ {g xs : List ℕ} (p : Piece g xs) where
  -- what stands in the piece stands in the list
  pub piece_member : {i : ℕ} → Memᴰ i g → Memᴰ i xs
  piece_member {i} m =
      subst (Memᴰ i) (sym p.is)
      (Memᴰ.append_right p.before (Memᴰ.append_left p.after m))

  -- the piece keeps the list's order
  pub piece_order : (R : ℕ → ℕ → Type 0) → InOrder R xs → InOrder R g
  piece_order R o =
      order_front R g p.after
      (order_back R p.before (g ++ p.after) (subst (InOrder R) p.is o))

-- one of several lists stands in them all in one piece
pub flatten_piece : {g : List ℕ} {gs : List (List ℕ)} → Memᴰ g gs → Piece g (flatten gs)
unfolding flatten
flatten_piece (Memᴰ.head {x = x} {xs = gs} e) =
    record { before = []; after = flatten gs; is = ap (λ (l : List ℕ). l ++ flatten gs) (sym e) }
flatten_piece (Memᴰ.tail {x = x} {xs = gs} m) =
    let p = flatten_piece m in
    record {
      before = x ++ p.before;
      after = p.after;
      is = ap (λ (l : List ℕ). x ++ l) p.is
          ∙ sym (append_assoc x p.before _);
    }
