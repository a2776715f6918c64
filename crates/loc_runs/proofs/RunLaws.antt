-- Keys and the runs that they make.
-- A run grows by one key of the same window.
use Prim.Native.Nat.{ℕ, ◌+◌, ◌/◌, ◌≤◌, ◌<◌, max}
use mathlib.Core.Path.{◌≡◌, refl, sym, ap, ◌∙◌, subst}
use mathlib.Core.Logic.{⊎_elim}
use mathlib.Core.Bool.{true}
use mathlib.Core.List.{List}
use native.Mathlib.Nat.{eq-or-lt_of_le, le_refl}
use native.Mathlib.Decide.{dec_le}
use native.Mathlib.Omega.{arith}
use lib.Dec.{leb, ltb}
use lib.ListN.{length, get_or, set}
use lib.Seq.{get_or-set_same, get_or-set_other}
use borrow.Author.Tests.{ltb-true, leb-true}
use Rattle.loc_leaf.specs.declared.Kind.{Kind}
use Rattle.loc_leaf.specs.declared.Kind.TheVariants.{Paired, Single}
use Rattle.loc_leaf.specs.Kind.{window_of, within_window}
use Rattle.loc_leaf.proofs.Booleans.{both_left, both_right}
use Rattle.loc_calls.specs.Reading.{before, looked_at, within}
use Rattle.loc_order.specs.Order.{All}
use Rattle.loc_order.specs.Keys.{places_from, place_of, wanted_by, KeyOf}
use Rattle.loc_order.proofs.OrderLaws.{all_at, all_of}
use Rattle.loc_order.proofs.KeyLaws.{places_length, places_at}
use Rattle.loc_answer.specs.Words.{AllSome}
use Rattle.loc_runs.specs.Runs.{IsRun, OneRun}

-- ---- looked at

-- its own record, and no more than a window
pub looked_own : (k : Kind) (n id : ℕ) → 0 < id → id ≤ n → within_window id < looked_at k n id
unfolding looked_at
looked_own Paired n id h g = le_refl _
looked_own Single n id h g = omega arith

pub looked_few : (k : Kind) (n id : ℕ) → looked_at k n id ≤ 1024
unfolding looked_at
looked_few Paired n id = omega arith
looked_few Single n id = omega arith

-- of two numbers of a window the larger looks at no fewer
looked_more : (k : Kind) (n a b : ℕ) → window_of a ≡ window_of b → a ≤ b → looked_at k n a ≤ looked_at k n b
unfolding looked_at
looked_more Paired n a b e h = omega arith
looked_more Single n a b e h = rw e (le_refl _)

pub larger_window : (a b r w : ℕ) → r ≡ max a b → window_of a ≡ w → window_of b ≡ w → window_of r ≡ w
larger_window a b r w q e g = go (dec_le a b)
  where
    go : Dec (a ≤ b) → window_of r ≡ w
    go (yes h) = let z : r ≡ b = omega arith in ap window_of z ∙ g
    go (no h) = let z : r ≡ a = omega arith in ap window_of z ∙ e

looked_larger : (k : Kind) (n a b r : ℕ) → window_of a ≡ window_of b → r ≡ max a b → looked_at k n r ≡ max (looked_at k n a) (looked_at k n b)
looked_larger k n a b r e q = go (dec_le a b)
  where
    go : Dec (a ≤ b) → looked_at k n r ≡ max (looked_at k n a) (looked_at k n b)
    go (yes h) =
        let z : r ≡ b = omega arith in
        ap (looked_at k n) z ∙ omega (arith, looked_more k n a b e h)
    go (no h) =
        let z : r ≡ a = omega arith in
        let l : b ≤ a = omega arith in
        ap (looked_at k n) z ∙ omega (arith, looked_more k n b a (sym e) l)

-- nothing past the count
pub looked_counted : (k : Kind) (n id : ℕ) → 0 < id → id ≤ n → before id + looked_at k n id ≤ n
unfolding looked_at
looked_counted Paired n id h g = omega arith
looked_counted Single n id h g = omega arith

-- ---- a record's number

pub within_some : (n id : ℕ) → within n id ≡ true → 0 < id
unfolding within
within_some n id e = ltb-true 0 id (both_left (ltb 0 id) (leb id n) e)

pub within_counted : (n id : ℕ) → within n id ≡ true → id ≤ n
unfolding within
within_counted n id e = leb-true id n (both_right (ltb 0 id) (leb id n) e)

-- ---- keys

module _ (n : ℕ) (ids keys : List ℕ) (a : All (KeyOf n ids) keys) (t : ℕ) (h : t < length keys) where
  pub key_there : place_of (get_or keys t 0) < length ids
  key_there = (all_at (KeyOf n ids) keys a t h).place

  pub key_within : within n (wanted_by ids keys t) ≡ true
  key_within = (all_at (KeyOf n ids) keys a t h).inside

  pub key_some : (id : ℕ) → id ≡ wanted_by ids keys t → 0 < id
  key_some id e = rw e (within_some n (wanted_by ids keys t) key_within)

  pub key_counted : (id : ℕ) → id ≡ wanted_by ids keys t → id ≤ n
  key_counted id e = rw e (within_counted n (wanted_by ids keys t) key_within)

-- ---- runs

module _ (k : Kind) (n : ℕ) (ids keys : List ℕ) (from stamp : ℕ) (mark mark' : List ℕ) (long : length mark ≡ 128) where
  pub run_first : (id m : ℕ) → from < length keys → id ≡ wanted_by ids keys from → m ≡ max 0 (looked_at k n id) → mark' ≡ set mark (within_window id / 8) stamp
      → IsRun k n ids keys from (from + 1) m stamp mark'
  run_first id m h e em es =
      record {
        more = omega arith;
        inside = omega arith;
        window = λ t g l. ap (λ (i : ℕ). window_of (wanted_by ids keys i)) (same t g l);
        looked = λ t g l. subst (λ (i : ℕ). looked_at k n (wanted_by ids keys i) ≤ m) (sym (same t g l)) (omega (arith, em, own));
        marked = λ t g l. subst (λ (i : ℕ). get_or mark' (within_window (wanted_by ids keys i) / 8) 0 ≡ stamp) (sym (same t g l)) there;
        most = from;
        most_from = le_refl from;
        most_end = omega arith;
        is_most = omega (arith, em, own);
      }
    where
      same : (t : ℕ) → from ≤ t → t < from + 1 → t ≡ from
      same t g l = omega arith

      own : looked_at k n id ≡ looked_at k n (wanted_by ids keys from)
      own = ap (looked_at k n) e

      there : get_or mark' (within_window (wanted_by ids keys from) / 8) 0 ≡ stamp
      there = rw (es, ← e) (get_or-set_same mark (within_window id / 8) stamp 0 (omega arith))

  pub run_next : (id w m m' end : ℕ) → IsRun k n ids keys from end m stamp mark → end < length keys → id ≡ wanted_by ids keys end
      → w ≡ window_of (wanted_by ids keys from) → window_of id ≡ w → m' ≡ max m (looked_at k n id) → mark' ≡ set mark (within_window id / 8) stamp
      → IsRun k n ids keys from (end + 1) m' stamp mark'
  run_next id w m m' end r h e ew eq em es = go (dec_le (looked_at k n id) m)
    where
      own : looked_at k n id ≡ looked_at k n (wanted_by ids keys end)
      own = ap (looked_at k n) e

      window : (t : ℕ) → from ≤ t → t < end + 1 → window_of (wanted_by ids keys t) ≡ window_of (wanted_by ids keys from)
      window t g l =
          ⊎_elim
          (λ (q : t ≡ end). ap (λ (i : ℕ). window_of (wanted_by ids keys i)) q ∙ ap window_of (sym e) ∙ eq ∙ ew)
          (λ (q : t < end). r.window t g q)
          (eq-or-lt_of_le (omega arith))

      looked : (t : ℕ) → from ≤ t → t < end + 1 → looked_at k n (wanted_by ids keys t) ≤ m'
      looked t g l =
          ⊎_elim
          (λ (q : t ≡ end). subst (λ (i : ℕ). looked_at k n (wanted_by ids keys i) ≤ m') (sym q) (omega (arith, em, own)))
          (λ (q : t < end). omega (arith, em, r.looked t g q))
          (eq-or-lt_of_le (omega arith))

      there : get_or mark' (within_window (wanted_by ids keys end) / 8) 0 ≡ stamp
      there = rw (es, ← e) (get_or-set_same mark (within_window id / 8) stamp 0 (omega arith))

      kept : (j : ℕ) → get_or mark j 0 ≡ stamp → get_or mark' j 0 ≡ stamp
      kept j q = at (dec_le j (within_window id / 8)) (dec_le (within_window id / 8) j)
        where
          other : (j ≡ within_window id / 8 → ⊥) → get_or mark' j 0 ≡ stamp
          other g = rw es (get_or-set_other mark (within_window id / 8) j stamp 0 g ∙ q)

          at : Dec (j ≤ within_window id / 8) → Dec (within_window id / 8 ≤ j) → get_or mark' j 0 ≡ stamp
          at (yes g) (yes l) =
              let e : j ≡ within_window id / 8 = omega arith in
              rw (es, e) (get_or-set_same mark (within_window id / 8) stamp 0 (omega arith))
          at (no g) l = other (λ z. omega arith)
          at (yes g) (no l) = other (λ z. omega arith)

      marked : (t : ℕ) → from ≤ t → t < end + 1 → get_or mark' (within_window (wanted_by ids keys t) / 8) 0 ≡ stamp
      marked t g l =
          ⊎_elim
          (λ (q : t ≡ end). subst (λ (i : ℕ). get_or mark' (within_window (wanted_by ids keys i) / 8) 0 ≡ stamp) (sym q) there)
          (λ (q : t < end). kept (within_window (wanted_by ids keys t) / 8) (r.marked t g q))
          (eq-or-lt_of_le (omega arith))

      go : Dec (looked_at k n id ≤ m) → IsRun k n ids keys from (end + 1) m' stamp mark'
      go (yes q) =
          record {
            more = omega (arith, r.more);
            inside = omega arith;
            window = window;
            looked = looked;
            marked = marked;
            most = r.most;
            most_from = r.most_from;
            most_end = omega (arith, r.most_end);
            is_most = r.is_most ∙ omega (arith, em, q);
          }
      go (no q) =
          record {
            more = omega (arith, r.more);
            inside = omega arith;
            window = window;
            looked = looked;
            marked = marked;
            most = end;
            most_from = omega (arith, r.more);
            most_end = omega arith;
            is_most = omega (arith, em, own);
          }

-- ---- a list that is one run, taken in its own order

module _ (ids : List ℕ) (few : length ids ≤ 1024) where
  pub own_number : (t : ℕ) → t < length ids → wanted_by ids (places_from 0 (length ids)) t ≡ get_or ids t 0
  own_number t h = ap (λ (p : ℕ). get_or ids p 0) (places_at (length ids) t few h)

pub one_count : (k : Kind) (n n' : ℕ) (ids : List ℕ) (m : ℕ) (mark : List ℕ) → n ≡ n' → OneRun k n ids m mark → OneRun k n' ids m mark
one_count k n n' ids m mark e o = subst (λ (i : ℕ). OneRun k i ids m mark) e o

-- no number of it is 0
pub own_some : (k : Kind) (n : ℕ) (ids : List ℕ) (m : ℕ) (mark : List ℕ) → length ids ≤ 1024 → OneRun k n ids m mark → AllSome ids
own_some k n ids m mark few o p h =
    rw (← own_number ids few p h) (key_some n ids (places_from 0 (length ids)) o.keys p (omega (arith, places_length 0 (length ids))) _ refl)

-- its window's begin
pub own_first : (k : Kind) (n : ℕ) (ids : List ℕ) (m : ℕ) (mark : List ℕ) → length ids ≤ 1024 → OneRun k n ids m mark → (w : ℕ) → w ≡ window_of (get_or ids 0 0) → w ≡ window_of (wanted_by ids (places_from 0 (length ids)) 0)
own_first k n ids m mark few o w e = e ∙ ap window_of (sym (own_number ids few 0 o.run.more))

-- the first p numbers lie in window w, and `most` is the largest of them, or the first number where p is 0
pub record Sweep (k : Kind) (n : ℕ) (ids : List ℕ) (w most : ℕ) (mark : List ℕ) (p : ℕ) : Type 0 where
  pub first : w ≡ window_of (get_or ids 0 0)
  pub window : window_of most ≡ w
  pub begins : p ≡ 0 → most ≡ get_or ids 0 0
  pub some : 0 < p → 0 < most
  pub counted : 0 < p → most ≤ n
  pub inside : (q : ℕ) → q < p → within n (get_or ids q 0) ≡ true
  pub run : 0 < p → IsRun k n ids (places_from 0 (length ids)) 0 p (looked_at k n most) 1 mark

module _ (k : Kind) (n : ℕ) (ids : List ℕ) (few : length ids ≤ 1024) where
  abbrev own : List ℕ
  own = places_from 0 (length ids)

  own_inside : (t : ℕ) → t < length ids → t < length own
  own_inside t h = omega (arith, places_length 0 (length ids))

  module _ (w : ℕ) (mark mark' : List ℕ) (long : length mark ≡ 128) where
    pub sweep_next : (id most most' p : ℕ) → Sweep k n ids w most mark p → p < length ids → id ≡ get_or ids p 0
        → (within n id ≡ true) × (window_of id ≡ w) → most' ≡ max most id → mark' ≡ set mark (within_window id / 8) 1 → Sweep k n ids w most' mark' (p + 1)
    sweep_next id most most' p s h e i el es =
        record {
          first = s.first;
          window = larger_window most id most' w el s.window i.1;
          begins = λ z. absurd (omega arith);
          some = λ _. omega (arith, within_some n id i.0);
          counted = λ _. most_counted (dec_le p 0);
          inside = λ q g. ⊎_elim
              (λ (z : q ≡ p). rw (z, ← e) i.0)
              (λ (l : q < p). s.inside q l)
              (eq-or-lt_of_le (omega arith));
          run = λ _. go (dec_le p 0);
        }
      where
        first : p ≤ 0 → most ≡ id
        first z =
            let zero : 0 ≡ p = omega arith in
            s.begins (sym zero) ∙ ap (λ (q : ℕ). get_or ids q 0) zero ∙ sym e

        id_counted : id ≤ n
        id_counted = within_counted n id i.0

        most_counted : Dec (p ≤ 0) → most' ≤ n
        most_counted (yes z) = omega (arith, first z, id_counted)
        most_counted (no z) = omega (arith, s.counted (omega arith), id_counted)

        here : id ≡ wanted_by ids own p
        here = e ∙ sym (own_number ids few p h)

        go : Dec (p ≤ 0) → IsRun k n ids own 0 (p + 1) (looked_at k n most') 1 mark'
        go (yes z) =
            let zero : p ≡ 0 = omega arith in
            let same : most' ≡ id = omega (arith, first z) in
            rw (zero, same) (run_first k n ids own 0 1 mark mark' long id (looked_at k n id) (own_inside 0 (omega arith)) (rw zero at here) (omega arith) es)
        go (no z) =
            run_next k n ids own 0 1 mark mark' long id w (looked_at k n most) (looked_at k n most') p (s.run (omega arith)) (own_inside p h) here (s.first ∙ ap window_of (sym (own_number ids few 0 (omega arith)))) i.1
            (looked_larger k n most id most' (s.window ∙ sym i.1) el) es

  one_run : (m p : ℕ) (mark : List ℕ) → IsRun k n ids own 0 p m 1 mark → p ≤ length ids → length ids ≤ p → ((q : ℕ) → q < p → within n (get_or ids q 0) ≡ true) → OneRun k n ids m mark
  one_run m p mark r h g f =
      record {
        keys = all_of (KeyOf n ids) own (λ t l.
            let b : t < length ids = omega (arith, places_length 0 (length ids)) in
            record { place = omega (arith, places_at (length ids) t few b); inside = ap (within n) (own_number ids few t b) ∙ f t (omega arith) });
        run = subst (λ (i : ℕ). IsRun k n ids own 0 i m 1 mark) e r;
      }
    where
      e : p ≡ length ids
      e = omega arith

  pub one_run_looked : (m most p : ℕ) (mark : List ℕ) → m ≡ looked_at k n most → IsRun k n ids own 0 p (looked_at k n most) 1 mark → p ≤ length ids → length ids ≤ p
      → ((q : ℕ) → q < p → within n (get_or ids q 0) ≡ true) → OneRun k n ids m mark
  one_run_looked m most p mark e r h g f = one_run m p mark (subst (λ (i : ℕ). IsRun k n ids own 0 p i 1 mark) (sym e) r) h g f
