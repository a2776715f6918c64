-- Areas that hold the book's list, and areas that an opening takes to it: what openings, truncations and appends make of them.
-- Each place of a call, torn there, leaves what the book keeps.
use Prim.Native.Nat.{ℕ, zero, suc, ◌/◌, ◌≤◌, ◌<◌}
use mathlib.Core.Path.{◌≡◌, refl, sym, ap, ◌∙◌}
use mathlib.Core.List.{List, ◌++◌, map, map-append}
use native.Mathlib.Nat.{min-eq_right}
use native.Mathlib.Omega.{arith}
use lib.ListN.{length, take, length-map}
use Rattle.loc_leaf.specs.declared.Kind.{Kind}
use Rattle.loc_calls.specs.Areas.{Areas, count}
use Rattle.loc_calls.specs.Table.{Entry}
use Rattle.loc_calls.specs.Stores.{run, truncate_places, open_places, staged, append_places}
use Rattle.loc_calls.proofs.Gathered.{rows_of, AllValid, valid_append, rows_in, rows_in_mono, rows_in_all}
use Rattle.loc_calls.proofs.State.{State, count_is, truncated_1, truncated_2}
use Rattle.loc_calls.proofs.Opening.{Full, Partial, full_partial, truncate_done, opening_torn, opening_done}
use Rattle.loc_calls.proofs.Chains.{Good, good_take}
use Rattle.loc_calls.proofs.Batches.{Fits}
use Rattle.loc_calls.proofs.Appending.{whole_ends, AllBelow, appended_1, appended_2, appended_3, appended_4}
use Rattle.loc_calls.proofs.Bounds.{good_below}
use Rattle.loc_history.specs.Book.{Rec, rec_of, checkpoint_count, row_count, longest_part, append_torn, truncate_torn}
use Rattle.loc_history.proofs.BookLaws.{map_take, row_count_lem, rows_part, checkpoints_part, LongestPart, longest_part_lem}

-- the areas hold the book's list whole
pub record Steady (k : Kind) (a : Areas) (L : List Rec) : Type 0 where
  pub E : List Entry
  pub full : Full k a E
  pub is : L ≡ map rec_of E
  pub good : Good E

-- an opening takes them to it
pub record Pending (k : Kind) (a : Areas) (L : List Rec) : Type 0 where
  pub F : List Entry
  pub partial : Partial k a F
  pub is : L ≡ map rec_of F
  pub good : Good F

pub steady_pending : (k : Kind) (a : Areas) (L : List Rec) → Steady k a L → Pending k a L
steady_pending k a L t = record { F = t.E; partial = full_partial k a t.E t.full; is = t.is; good = t.good }

-- areas that hold a good list in part are taken to the longest part that the book finds, by its own counts
pub pending_part : (k : Kind) (a : Areas) (E : List Entry) (r c : ℕ) → State k a E r c → Good E
    → (N : List Rec) (R C : ℕ) → N ≡ map rec_of E → R ≡ r → C ≡ c → Pending k a (longest_part k C R N)
pending_part k a E r c s g N R C n-is r-is c-is =
    let t : LongestPart k E r c = longest_part_lem k E r c s.valid in
    record {
      F = take t.n E;
      partial = record { E = E; r = r; c = c; n = t.n; state = s; kept = t.kept; is = refl };
      is = rw (n-is, r-is, c-is) t.is;
      good = good_take t.n E g;
    }

-- ---- opening

module _ (k : Kind) (a : Areas) (L : List Rec) (p : Pending k a L) where
  pub open_torn : (s : ℕ) → Pending k (run s (open_places k a) a) L
  open_torn s = record { F = p.F; partial = opening_torn k a p.F p.partial s; is = p.is; good = p.good }

  pub open_done : Steady k (run 6 (open_places k a) a) L
  open_done = record { E = p.F; full = opening_done k a p.F p.partial; is = p.is; good = p.good }

-- ---- the list that is held

module _ (k : Kind) (a : Areas) (L : List Rec) (t : Steady k a L) where
  pub same_length : length L ≡ length t.E
  same_length = ap length t.is ∙ length-map t.E rec_of

  pub count_book : count a ≡ length L
  count_book = count_is k a t.E _ _ t.full ∙ sym same_length

  rows_held : row_count k L ≡ length (rows_of k t.E)
  rows_held = ap (row_count k) t.is ∙ row_count_lem k 0 t.E t.full.valid

  pub checkpoints_held : checkpoint_count L ≡ length t.E / 1024
  unfolding checkpoint_count
  checkpoints_held = ap (λ (i : ℕ). i / 1024) same_length

-- ---- truncation to w records

module _ (k : Kind) (a : Areas) (L : List Rec) (t : Steady k a L) (w : ℕ) (h : w ≤ length L) where
  inside : w ≤ length t.E
  inside = omega (arith, same_length k a L t)

  fewer : w / 1024 ≤ length t.E / 1024
  fewer = omega (arith, inside)

  pub cut_done : Steady k (run 3 (truncate_places k w a) a) (take w L)
  cut_done = record {
    E = take w t.E;
    full = truncate_done k a t.E w t.full inside;
    is = ap (take w) t.is ∙ sym (map_take rec_of w t.E);
    good = good_take w t.E t.good;
  }

  rows_wanted : row_count k (take w L) ≡ rows_in k t.E w
  rows_wanted = ap (λ (l : List Rec). row_count k (take w l)) t.is ∙ rows_part k t.E t.full.valid w

  checkpoints_wanted : checkpoint_count (take w L) ≡ w / 1024
  checkpoints_wanted = ap (λ (l : List Rec). checkpoint_count (take w l)) t.is ∙ checkpoints_part k t.E t.full.valid w inside

  pub cut_torn : (s : ℕ) → s < 3 → Pending k (run s (truncate_places k w a) a) (truncate_torn k s L (take w L))
  unfolding truncate_torn
  cut_torn zero g = unfold run in steady_pending k a L t
  cut_torn (suc zero) g =
      pending_part k _ t.E _ _ (truncated_1 k a t.E _ _ t.full w inside fewer) t.good
      L (row_count k L) (checkpoint_count (take w L)) t.is (rows_held k a L t) checkpoints_wanted
  cut_torn (suc (suc zero)) g =
      pending_part k _ t.E _ _ (truncated_2 k a t.E _ _ t.full w inside fewer) t.good
      L (row_count k (take w L)) (checkpoint_count (take w L)) t.is (rows_wanted ∙ sym (min-eq_right less)) checkpoints_wanted
    where
      less : rows_in k t.E w ≤ length (rows_of k t.E)
      less = omega (arith, rows_in_mono k t.E w (length t.E) inside, rows_in_all k t.E)
  cut_torn (suc (suc (suc s))) g = absurd (too g)
    where
      too : suc (suc (suc s)) < 3 → ⊥
      too g = omega arith

-- ---- append of valid records that fit and make a good list

module _ (k : Kind) (a : Areas) (L : List Rec) (t : Steady k a L) (es : List Entry) (v : AllValid k es) (f : Fits a (staged k (count a) es)) (g : Good (t.E ++ es)) where
  abbrev N : List Rec
  N = L ++ map rec_of es

  fits : Fits a (staged k (length t.E) es)
  fits = rw (count_is k a t.E _ _ t.full) at f

  valid_new : AllValid k (t.E ++ es)
  valid_new = valid_append k t.E es t.full.valid v

  below : AllBelow (whole_ends k (t.E ++ es))
  below = good_below k (t.E ++ es) valid_new g

  is_new_lem : N ≡ map rec_of (t.E ++ es)
  is_new_lem = ap (λ (l : List Rec). l ++ map rec_of es) t.is ∙ sym (map-append rec_of t.E es)

  rows_new : row_count k N ≡ length (rows_of k (t.E ++ es))
  rows_new = ap (row_count k) is_new_lem ∙ row_count_lem k 0 (t.E ++ es) valid_new

  pub add_done : Steady k (run 4 (append_places a (staged k (count a) es)) a) N
  add_done = rw (count_is k a t.E _ _ t.full) (record { E = t.E ++ es; full = appended_4 k a t.E es t.full v fits below; is = is_new_lem; good = g })

  pub add_torn : (s : ℕ) → s < 4 → Pending k (run s (append_places a (staged k (count a) es)) a) (append_torn k s L N)
  unfolding append_torn
  add_torn zero h = unfold run in steady_pending k a L t
  add_torn (suc zero) h =
      rw (count_is k a t.E _ _ t.full) (steady_pending k _ L (record { E = t.E; full = appended_1 k a t.E es t.full v fits below; is = t.is; good = t.good }))
  add_torn (suc (suc zero)) h =
      rw (count_is k a t.E _ _ t.full)
      (pending_part k _ (t.E ++ es) _ _ (appended_2 k a t.E es t.full v fits below) g
      N (row_count k L) (checkpoint_count L) is_new_lem (rows_held k a L t) (checkpoints_held k a L t))
  add_torn (suc (suc (suc zero))) h =
      rw (count_is k a t.E _ _ t.full)
      (pending_part k _ (t.E ++ es) _ _ (appended_3 k a t.E es t.full v fits below) g
      N (row_count k N) (checkpoint_count L) is_new_lem rows_new (checkpoints_held k a L t))
  add_torn (suc (suc (suc (suc s)))) h = absurd (too h)
    where
      too : suc (suc (suc (suc s))) < 4 → ⊥
      too h = omega arith
