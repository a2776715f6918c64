-- What the book keeps of a torn call, in the demand's words.
-- The longest part reaches at least as far as any that fits.
use Prim.Native.Nat.{ℕ, zero, suc, ◌-◌, ◌≤◌}
use mathlib.Core.Path.{◌≡◌, refl, sym, ap, ◌∙◌, subst}
use mathlib.Core.Bool.{Bool, true, false, cond, ◌&&◌, true≢false}
use mathlib.Core.List.{List, ◌++◌, append-nil}
use native.Mathlib.Nat.{le_refl, add-sub_of_le}
use native.Mathlib.Omega.{arith}
use native.Mathlib.Decide.{dec_le}
use lib.Dec.{leb}
use lib.ListN.{length, take, drop, length-append, take-append-drop}
use lib.Seq.{take-length, take-append_seam, take-append-add}
use borrow.Author.Tests.{le-leb}
use Rattle.loc_leaf.specs.declared.Kind.{Kind}
use Rattle.loc_history.specs.Book.{Rec, checkpoint_count, row_count, longest, longest_part, append_torn, truncate_torn}
use Rattle.loc_history.specs.History.{TornAppendKeeps, TornTruncateKeeps}
use Rattle.loc_history.proofs.BookLaws.{rows_append}

reaches : (k : Kind) (c r : ℕ) (L : List Rec) (j m : ℕ) → j ≤ m → checkpoint_count (take j L) ≤ c → row_count k (take j L) ≤ r → (n : ℕ) × (j ≤ n) × (longest k c r L m ≡ take n L)
unfolding longest
reaches k c r L j zero h hc hr = (0, h, refl)
reaches k c r L j (suc m) h hc hr = go fits refl (λ q. reaches k c r L j m q hc hr)
  where
    fits : Bool
    fits = leb (checkpoint_count (take (suc m) L)) c && leb (row_count k (take (suc m) L)) r

    go : (b : Bool) → fits ≡ b → (j ≤ m → (n : ℕ) × (j ≤ n) × (longest k c r L m ≡ take n L))
        → (n : ℕ) × (j ≤ n) × (cond fits (take (suc m) L) (longest k c r L m) ≡ take n L)
    go true t ih = (suc m, h, rw t refl)
    go false t ih = let f : (n : ℕ) × (j ≤ n) × (longest k c r L m ≡ take n L) = ih (shorter (dec_le j m)) in (f.0, f.1, rw t f.2)
      where
        at_top : j ≡ suc m → ⊥
        at_top e =
            true≢false
            (sym (rw (le-leb (checkpoint_count (take (suc m) L)) c (subst (λ (i : ℕ). checkpoint_count (take i L) ≤ c) e hc), le-leb (row_count k (take (suc m) L)) r (subst (λ (i : ℕ). row_count k (take i L) ≤ r) e hr)) refl) ∙ t)

        shorter : Dec (j ≤ m) → j ≤ m
        shorter (yes q) = q
        shorter (no q) = absurd (at_top (omega arith))

keeps : (k : Kind) (L B : List Rec) (r : ℕ) → row_count k L ≤ r → (n : ℕ) × (longest k (checkpoint_count L) r (L ++ B) (length (L ++ B)) ≡ L ++ take n B)
keeps k L B r h =
    let f : (n : ℕ) × (length L ≤ n) × (longest k (checkpoint_count L) r (L ++ B) (length (L ++ B)) ≡ take n (L ++ B)) =
    reaches k (checkpoint_count L) r (L ++ B) (length L) (length (L ++ B)) (omega (arith, length-append L B)) (rw (take-append_seam L B) (le_refl (checkpoint_count L))) (rw (take-append_seam L B) h) in
    (f.0 - length L, f.2 ∙ ap (λ (i : ℕ). take i (L ++ B)) (sym (add-sub_of_le f.1)) ∙ take-append-add L B (f.0 - length L))

pub torn_append_keeps : TornAppendKeeps
unfolding TornAppendKeeps append_torn longest_part
torn_append_keeps k zero L B = (0, sym (append-nil L))
torn_append_keeps k (suc zero) L B = (0, sym (append-nil L))
torn_append_keeps k (suc (suc zero)) L B = keeps k L B (row_count k L) (le_refl (row_count k L))
torn_append_keeps k (suc (suc (suc s))) L B = keeps k L B (row_count k (L ++ B)) (omega (arith, rows_append k L B))

pub torn_truncate_keeps : TornTruncateKeeps
unfolding TornTruncateKeeps truncate_torn longest_part
torn_truncate_keeps k zero w L h = (length L, h, sym (take-length L))
torn_truncate_keeps k (suc zero) w L h = reaches k (checkpoint_count (take w L)) (row_count k L) L w (length L) h (le_refl (checkpoint_count (take w L))) fewer
  where
    fewer : row_count k (take w L) ≤ row_count k L
    fewer = omega (arith, rows_append k (take w L) (drop w L), ap (row_count k) (take-append-drop w L))
torn_truncate_keeps k (suc (suc s)) w L h =
    reaches k (checkpoint_count (take w L)) (row_count k (take w L)) L w (length L) h (le_refl (checkpoint_count (take w L))) (le_refl (row_count k (take w L)))
