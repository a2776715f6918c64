-- An area that publishes n pieces of w bytes and is known to hold `items`, the published ones first; what stores do to it.
-- The bytes behind the published ones may be known: the cut rule reads them.
use Prim.Native.Nat.{ℕ, ◌+◌, ◌*◌, ◌^◌, ◌≤◌, ◌<◌}
use mathlib.Core.Path.{◌≡◌, refl, sym, ap, ◌∙◌}
use mathlib.Core.Logic.{◌⊎◌, inl, inr}
use mathlib.Core.Bool.{true, false, cond}
use mathlib.Core.List.{List, [], ◌++◌, flatten}
use native.Mathlib.Nat.{mul-zero, mul-add, add-sub_cancel_left, mul-div_cancel_left, mul-le-mul_left, mul-mod_right, le_refl}
use native.Mathlib.Omega.{arith}
use lib.Dec.{eqb}
use lib.ListN.{length, take, drop, get_or, length-append, length-take}
use lib.Seq.{drop-drop, length-take-le}
use borrow.Author.Tests.{eqb-true}
use Rattle.loc_leaf.specs.Bytes.{Bytes}
use Rattle.loc_leaf.specs.Area.{counted, store_length, store_past, pieces, fill, published}
use Rattle.loc_leaf.proofs.Booleans.{is?}
use Rattle.loc_leaf.proofs.Stored.{take_store, drop_stored}
use Rattle.loc_leaf.proofs.AreaLaws.{take_drop, take_own, counted_le, length_store_length, drop_store_length, counted_store_length, length_store_past, counted_store_past, pieces_take, pieces_add, pieces_cong, pieces_get, Widths, length_flatten, pieces_flatten}
use Rattle.loc_calls.specs.Stores.{ragged}

pub record Holds (w : ℕ) (xs : Bytes) (items : List Bytes) (n : ℕ) : Type 0 where
  pub big : 16 ≤ length xs
  pub end : counted xs ≡ 16 + w * n
  pub inside : n ≤ length items
  pub below : 16 + w * length items < 2 ^ 64
  pub room : 16 + w * length items ≤ length xs
  pub same : pieces w (length items) (drop 16 xs) ≡ items

module _ (w : ℕ) (xs : Bytes) (items : List Bytes) (n : ℕ) (h : Holds w xs items n) where
  pub holds_fill : 0 < w → fill w xs ≡ n
  unfolding fill
  holds_fill p = rw (h.end, add-sub_cancel_left 16 (w * n)) (mul-div_cancel_left n p)

  pub holds_pieces : (m : ℕ) → m ≤ length items → pieces w m (drop 16 xs) ≡ take m items
  holds_pieces m g = pieces_take w m (length items) (drop 16 xs) g ∙ ap (take m) h.same

  pub holds_published : 0 < w → published w xs ≡ take n items
  unfolding published
  holds_published p = rw (holds_fill p) (holds_pieces n h.inside)

  pub holds_ragged : ragged w xs ≡ false
  unfolding ragged
  holds_ragged = rw (h.end, add-sub_cancel_left 16 (w * n), mul-mod_right w n) refl

  -- a known piece stands where it is looked for
  pub holds_get : (i : ℕ) → i < length items → take w (drop (16 + w * i) xs) ≡ get_or items i []
  holds_get i g =
      ap (take w) (sym (drop-drop (w * i) 16 xs))
      ∙ sym (pieces_get w (length items) (drop 16 xs) i g)
      ∙ ap (λ (l : List Bytes). get_or l i []) h.same

-- ---- knowing less

pub forget : (w : ℕ) (xs : Bytes) (items : List Bytes) (n j : ℕ) → Holds w xs items n → n ≤ j → Holds w xs (take j items) n
forget w xs items n j h g = record {
  big = h.big;
  end = h.end;
  inside = rw (length-take j items) (omega (arith, h.inside));
  below = omega (arith, mul-le-mul_left w shorter, h.below);
  room = omega (arith, mul-le-mul_left w shorter, h.room);
  same = holds_pieces w xs items n h (length (take j items)) shorter ∙ take_own j items;
}
  where
    shorter : length (take j items) ≤ length items
    shorter = rw (length-take j items) (omega arith)

-- ---- a stored length

pub set_length : (w : ℕ) (xs : Bytes) (items : List Bytes) (n m : ℕ) → Holds w xs items n → m ≤ length items → Holds w (store_length (16 + w * m) xs) items m
set_length w xs items n m h g = record {
  big = rw (length_store_length (16 + w * m) xs) h.big;
  end = counted_store_length (16 + w * m) xs (omega arith) (omega (arith, mul-le-mul_left w g, h.room)) (omega (arith, mul-le-mul_left w g, h.below));
  inside = g;
  below = h.below;
  room = rw (length_store_length (16 + w * m) xs) h.room;
  same = rw (drop_store_length (16 + w * m) xs) h.same;
}

-- stored only where it differs
unfoldable pub store_differing : ℕ → Bytes → Bytes
store_differing v xs = cond (eqb v (counted xs)) xs (store_length v xs)

pub set_differing : (w : ℕ) (xs : Bytes) (items : List Bytes) (n m : ℕ) → Holds w xs items n → m ≤ length items → Holds w (store_differing (16 + w * m) xs) items m
unfolding store_differing
set_differing w xs items n m h g = go (is? (eqb (16 + w * m) (counted xs)))
  where
    go : ((eqb (16 + w * m) (counted xs)) ≡ true) ⊎ ((eqb (16 + w * m) (counted xs)) ≡ false) → Holds w (cond (eqb (16 + w * m) (counted xs)) xs (store_length (16 + w * m) xs)) items m
    go (inl e) = rw e (record { big = h.big; end = sym (eqb-true _ _ e); inside = g; below = h.below; room = h.room; same = h.same })
    go (inr e) = rw e (set_length w xs items n m h g)

-- an area fresh from creation
pub fresh : (w : ℕ) (xs : Bytes) → 16 ≤ length xs → Holds w (store_length 16 xs) [] 0
unfolding pieces
fresh w xs g = record {
  big = rw (length_store_length 16 xs) g;
  end = counted_store_length 16 xs (omega arith) g (omega arith) ∙ rw (mul-zero w) refl;
  inside = le_refl 0;
  below = rw (mul-zero w) (omega arith);
  room = rw (mul-zero w, length_store_length 16 xs) g;
  same = refl;
}

-- ---- bytes past the published end

module _ (w : ℕ) (xs : Bytes) (items : List Bytes) (n : ℕ) (h : Holds w xs items n) (bs : Bytes) where
  -- the published pieces stay
  pub past_pieces : pieces w n (drop 16 (store_past bs xs)) ≡ take n items
  unfolding store_past
  past_pieces =
      pieces_cong w n (drop 16 (store_past bs xs)) (drop 16 xs)
      (take_drop (w * n) 16 (store_past bs xs) ∙ ap (drop 16) (take_store (16 + w * n) (counted xs) bs xs (omega (arith, h.end))) ∙ sym (take_drop (w * n) 16 xs))
      ∙ holds_pieces w xs items n h n h.inside

  -- and anything may stand behind them
  pub past_holds : Holds w (store_past bs xs) (take n items) n
  past_holds = record {
    big = rw (length_store_past bs xs) h.big;
    end = counted_store_past bs xs h.big ∙ h.end;
    inside = omega (arith, total);
    below = rw total (omega (arith, mul-le-mul_left w h.inside, h.below));
    room = rw (total, length_store_past bs xs) (omega (arith, counted_le xs, h.end));
    same = rw total past_pieces;
  }
    where
      total : length (take n items) ≡ n
      total = length-take-le n items h.inside

-- new pieces, where they fit, stand behind the published ones
pub extend : (w : ℕ) (xs : Bytes) (items : List Bytes) (n : ℕ) (new : List Bytes) → Holds w xs items n → Widths w new → counted xs + length (flatten new) ≤ length xs
    → counted xs + length (flatten new) < 2 ^ 64 → Holds w (store_past (flatten new) xs) (take n items ++ new) n
extend w xs items n new h ws fits few = record {
  big = rw (length_store_past (flatten new) xs) h.big;
  end = counted_store_past (flatten new) xs h.big ∙ h.end;
  inside = omega (arith, total);
  below = rw total (omega (arith, h.end, length_flatten w new ws, mul-add w n (length new)));
  room = rw (total, length_store_past (flatten new) xs) (omega (arith, h.end, length_flatten w new ws, mul-add w n (length new)));
  same = rw (total, pieces_add w n (length new) (drop 16 (store_past (flatten new) xs)), past_pieces w xs items n h (flatten new), behind, pieces_flatten w new rest ws) refl;
}
  where
    rest : Bytes
    rest = drop (counted xs + length (flatten new)) xs

    total : length (take n items ++ new) ≡ n + length new
    total = rw (length-append (take n items) new, length-take-le n items h.inside) refl

    behind : drop (w * n) (drop 16 (store_past (flatten new) xs)) ≡ flatten new ++ rest
    behind =
        drop-drop (w * n) 16 (store_past (flatten new) xs)
        ∙ ap (λ (i : ℕ). drop i (store_past (flatten new) xs)) (sym h.end)
        ∙ unfold store_past in drop_stored (counted xs) (flatten new) xs fits
