-- A step of the walk over a window's slots.
-- What stood in the arrays for marked blocks before is kept.
use Prim.Native.Nat.{ℕ, ◌+◌, ◌*◌, ◌/◌, ◌≤◌, ◌<◌, min}
use mathlib.Core.Path.{◌≡◌, sym, subst}
use mathlib.Core.Bool.{false}
use mathlib.Core.List.{List}
use native.Mathlib.Decide.{dec_le}
use native.Mathlib.Omega.{arith}
use lib.ListN.{get_or}
use Rattle.loc_leaf.specs.declared.Kind.{Kind}
use Rattle.loc_leaf.specs.Bytes.{Bytes}
use Rattle.loc_calls.specs.Reading.{lookup_at, has}
use Rattle.loc_window.specs.declared.Sums.{Sums}
use Rattle.std.specs.Prelude.{Option, Some, None}
use Rattle.loc_window.specs.Window.{window_areas, complete, After, Right, Written, Recorded, BlocksPassed, SumsStored, SlotStepped}
use Rattle.loc_window.proofs.SumLaws.{all_more, right_same}

module _ (k : Kind) (f : ℕ) (bytes rows : Bytes) where
  module _ (mark : List ℕ) (stamp : ℕ) where
    stored_written : (n n' : ℕ) (body span body' span' : List ℕ) → SumsStored k f bytes rows mark stamp n body span → Written k f bytes rows n n' body span body' span'
        → SumsStored k f bytes rows mark stamp n' body' span'
    stored_written n n' body span body' span' w v = record { here = here; next = next }
      where
        kept : (j : ℕ) → j < n → Right k f bytes rows j body span → Right k f bytes rows j body' span'
        kept j h r = right_same k f bytes rows j body span body' span' (v.body_kept j h) (v.span_kept j h) r

        here : (j : ℕ) → j < n' → get_or mark (j / 8) 0 ≡ stamp → Right k f bytes rows j body' span'
        here j h e = go (dec_le n j)
          where
            go : Dec (n ≤ j) → Right k f bytes rows j body' span'
            go (yes g) = v.right j g (omega arith)
            go (no g) = kept j (omega arith) (w.here j (omega arith) e)

        next : (j : ℕ) → j < n' → get_or mark (j / 8) 0 ≡ stamp → Right k f bytes rows (j + 1) body' span'
        next j h e = go (dec_le n (j + 1))
          where
            go : Dec (n ≤ j + 1) → Right k f bytes rows (j + 1) body' span'
            go (yes g) = v.right (j + 1) g (omega arith)
            go (no g) = kept (j + 1) (omega arith) (w.next j (omega arith) e)

    -- marked blocks, record by record
    step_recorded : (block end m n : ℕ) (body span body' span' : List ℕ) (r : Option Sums) → SumsStored k f bytes rows mark stamp (8 * block) body span → block < end → 8 * end < m + 8
        → n ≡ min (8 * end) m → Recorded k f bytes rows end (8 * block) n body span body' span' r → SlotStepped k f bytes rows mark stamp block m body' span' r
    step_recorded block end m n body span body' span' (Some s) w h g e v = (
      omega (arith, v.0),
      omega (arith, v.0),
      subst (λ (i : ℕ). After k f bytes rows i s) q v.1,
      subst (λ (i : ℕ). SumsStored k f bytes rows mark stamp i body' span') q (stored_written (8 * block) n body span body' span' w v.2),
    )
      where
        q : n ≡ min (8 * s.block) m
        q = omega (arith, v.0)
    step_recorded block end m n body span body' span' None w h g e v = all_more (λ i. has (lookup_at k (window_areas f bytes rows) i)) f n m v (omega arith)

    -- the same by the arm of the kind
    pub step_arm : (j : Kind) → k ≡ j → (block end m n : ℕ) (body span body' span' : List ℕ) (r : Option Sums) → SumsStored k f bytes rows mark stamp (8 * block) body span → block < end → 8 * end < m + 8
        → n ≡ min (8 * end) m → Recorded j f bytes rows end (8 * block) n body span body' span' r → SlotStepped k f bytes rows mark stamp block m body' span' r
    step_arm j q block end m n body span body' span' r w h g e v =
        step_recorded block end m n body span body' span' r w h g e (subst (λ (i : Kind). Recorded i f bytes rows end (8 * block) n body span body' span' r) (sym q) v)

    pub passed_lack : (block m : ℕ) (r : Option Sums) → r ≡ None → BlocksPassed k f bytes rows mark stamp block (m / 8) r → complete k (window_areas f bytes rows) f m ≡ false
    passed_lack block m r e v = all_more (λ i. has (lookup_at k (window_areas f bytes rows) i)) f (8 * (m / 8)) m (subst (BlocksPassed k f bytes rows mark stamp block (m / 8)) e v) (omega arith)

-- ---- after a step

module _ (k : Kind) (f : ℕ) (bytes rows : Bytes) (mark : List ℕ) (stamp block m : ℕ) (body span : List ℕ) (r : Option Sums) (v : SlotStepped k f bytes rows mark stamp block m body span r) where
  pub slot_next : (s : Sums) → r ≡ Some s → (block < s.block) × (8 * s.block < m + 8)
      × After k f bytes rows (min (8 * s.block) m) s × SumsStored k f bytes rows mark stamp (min (8 * s.block) m) body span
  slot_next s e = subst (SlotStepped k f bytes rows mark stamp block m body span) e v

  pub slot_lack : r ≡ None → complete k (window_areas f bytes rows) f m ≡ false
  slot_lack e = subst (SlotStepped k f bytes rows mark stamp block m body span) e v
