-- What truncation and opening leave, torn or finished: areas that hold a list whole, or that an opening takes to one.
-- `Kept` says by four inequalities which first part an opening keeps; every place of an opening keeps it.
use Prim.Native.Nat.{ℕ, zero, suc, ◌+◌, ◌-◌, ◌*◌, ◌/◌, ◌≤◌, ◌<◌, min}
use mathlib.Core.Path.{◌≡◌, refl, sym, ap, ◌∙◌, subst}
use mathlib.Core.Logic.{◌⊎◌, inl, inr}
use mathlib.Core.Bool.{true, false}
use mathlib.Core.List.{List, [], ◌++◌}
use native.Mathlib.Nat.{min-eq_right, le_refl}
use native.Mathlib.Omega.{arith}
use native.Mathlib.Decide.{dec_le}
use lib.Dec.{ltb}
use lib.ListN.{length, take}
use lib.Seq.{take-take, take-length, length-take-le}
use borrow.Author.Tests.{ltb-true, ltb-false}
use Rattle.loc_leaf.specs.declared.Kind.{Kind}
use Rattle.loc_leaf.specs.Slot.{checkpoint_rule}
use Rattle.loc_leaf.proofs.Booleans.{is?}
use Rattle.loc_calls.specs.Areas.{Areas}
use Rattle.loc_calls.specs.Table.{Entry}
use Rattle.loc_calls.specs.Stores.{run, truncate_places, cut_rule, ruled_count, ruled, open_places}
use Rattle.loc_calls.proofs.Gathered.{rows_of, NextRow, next_row_lem, next_total, next_before, next_with, rows_in, rows_in_mono, rows_in_all, rows_in_take}
use Rattle.loc_calls.proofs.State.{State, count_is, rows_inside, checkpoints_inside, checkpoint_fill, truncated_1, truncated_2, truncated_3, cut_next, no_false_cut}

-- the areas hold the list E with all its rows and checkpoints
abbrev pub Full : Kind → Areas → List Entry → Type 0
Full k a E = State k a E (length (rows_of k E)) (length E / 1024)

-- n is the longest first part of E with no more than c checkpoints and r rows
pub record Kept (k : Kind) (E : List Entry) (r c n : ℕ) : Type 0 where
  pub inside : n ≤ length E
  pub checkpoints : n / 1024 ≤ c
  pub rows : rows_in k E n ≤ r
  pub top : n < length E → (c < suc n / 1024) ⊎ (r < rows_in k E (suc n))

-- the areas hold a list of which the longest such part is F
pub record Partial (k : Kind) (a : Areas) (F : List Entry) : Type 0 where
  pub E : List Entry
  pub r : ℕ
  pub c : ℕ
  pub n : ℕ
  pub state : State k a E r c
  pub kept : Kept k E r c n
  pub is : take n E ≡ F

pub full_partial : (k : Kind) (a : Areas) (E : List Entry) → Full k a E → Partial k a E
full_partial k a E s = record {
  E = E;
  r = length (rows_of k E);
  c = length E / 1024;
  n = length E;
  state = s;
  kept = record { inside = le_refl (length E); checkpoints = le_refl (length E / 1024); rows = omega (arith, rows_in_all k E); top = λ h. absurd (too h) };
  is = take-length E;
}
  where
    too : length E < length E → ⊥
    too h = omega arith

-- ---- truncation

-- a finished truncation leaves the first w records whole
pub truncate_done : (k : Kind) (a : Areas) (E : List Entry) (w : ℕ) → Full k a E → w ≤ length E → Full k (run 3 (truncate_places k w a) a) (take w E)
truncate_done k a E w s h = rw (length-take-le w E h) (unfold rows_in in (rw fewer at (truncated_3 k a E _ _ s w h (omega arith))))
  where
    fewer : min (length (rows_of k E)) (rows_in k E w) ≡ rows_in k E w
    fewer = min-eq_right (omega (arith, rows_in_mono k E w (length E) h, rows_in_all k E))

-- a truncation to m records, no fewer than are kept, keeps what opening keeps
module _ (k : Kind) (E : List Entry) (r c n : ℕ) (p : Kept k E r c n) (m : ℕ) (g : n ≤ m) (gl : m ≤ length E) (gc : m / 1024 ≤ c) where
  kept_1 : Kept k E r (m / 1024) n
  kept_1 = record { inside = p.inside; checkpoints = omega arith; rows = p.rows; top = λ h. go (p.top h) }
    where
      go : (c < suc n / 1024) ⊎ (r < rows_in k E (suc n)) → (m / 1024 < suc n / 1024) ⊎ (r < rows_in k E (suc n))
      go (inl q) = inl (omega arith)
      go (inr q) = inr q

  kept_2 : Kept k E (min r (rows_in k E m)) (m / 1024) n
  kept_2 = record { inside = p.inside; checkpoints = omega arith; rows = omega (arith, p.rows, rows_in_mono k E n m g); top = λ h. go (p.top h) }
    where
      go : (c < suc n / 1024) ⊎ (r < rows_in k E (suc n)) → (m / 1024 < suc n / 1024) ⊎ (min r (rows_in k E m) < rows_in k E (suc n))
      go (inl q) = inl (omega arith)
      go (inr q) = inr (omega arith)

  kept_3 : Kept k (take m E) (min r (rows_in k E m)) (m / 1024) n
  kept_3 = record {
    inside = rw (length-take-le m E gl) g;
    checkpoints = omega arith;
    rows = rw (rows_in_take k E m n g) kept_2.rows;
    top = λ h. go (rw (length-take-le m E gl) at h);
  }
    where
      go : n < m → (m / 1024 < suc n / 1024) ⊎ (min r (rows_in k E m) < rows_in k (take m E) (suc n))
      go h = rw (rows_in_take k E m (suc n) h) (kept_2.top (omega arith))

pub run_nil : (s : ℕ) (a : Areas) → run s [] a ≡ a
unfolding run
run_nil zero a = refl
run_nil (suc s) a = refl

truncating : (k : Kind) (a : Areas) (F : List Entry) (p : Partial k a F) (m : ℕ) → p.n ≤ m → m ≤ length p.E → m / 1024 ≤ p.c
    → (j : ℕ) → Partial k (run j (truncate_places k m a) a) F
unfolding run truncate_places
truncating k a F p m g gl gc zero = p
truncating k a F p m g gl gc (suc zero) = record {
  E = p.E;
  r = p.r;
  c = m / 1024;
  n = p.n;
  state = truncated_1 k a p.E p.r p.c p.state m gl gc;
  kept = kept_1 k p.E p.r p.c p.n p.kept m g gl gc;
  is = p.is;
}
truncating k a F p m g gl gc (suc (suc zero)) = record {
  E = p.E;
  r = min p.r (rows_in k p.E m);
  c = m / 1024;
  n = p.n;
  state = truncated_2 k a p.E p.r p.c p.state m gl gc;
  kept = kept_2 k p.E p.r p.c p.n p.kept m g gl gc;
  is = p.is;
}
truncating k a F p m g gl gc (suc (suc (suc j))) =
    subst (λ (b : Areas). Partial k b F) (sym (run_nil j (run 3 (truncate_places k m a) a)))
    (record {
      E = take m p.E;
      r = min p.r (rows_in k p.E m);
      c = m / 1024;
      n = p.n;
      state = truncated_3 k a p.E p.r p.c p.state m gl gc;
      kept = kept_3 k p.E p.r p.c p.n p.kept m g gl gc;
      is = take-take p.n m p.E g ∙ p.is;
    })

-- ---- the count that the checkpoint rule keeps

record Ruled (l c n : ℕ) : Type 0 where
  inside : checkpoint_rule l c ≤ l
  checkpoints : checkpoint_rule l c / 1024 ≡ c
  above : n ≤ checkpoint_rule l c

rule_keeps : (l c n : ℕ) → c ≤ l / 1024 → n ≤ l → n / 1024 ≤ c → Ruled l c n
rule_keeps l c n hc hl hn = go (is? (ltb c (l / 1024)))
  where
    go : (ltb c (l / 1024) ≡ true) ⊎ (ltb c (l / 1024) ≡ false) → Ruled l c n
    go (inl t) = record { inside = rw is' (omega (arith, less)); checkpoints = rw is' (omega (arith, less)); above = rw is' (omega (arith, less)) }
      where
        less : c < l / 1024
        less = ltb-true c (l / 1024) t

        is' : checkpoint_rule l c ≡ (c + 1) * 1024 - 1
        is' = unfold checkpoint_rule in rw t refl
    go (inr t) = record { inside = rw is' (omega arith); checkpoints = rw is' (omega (arith, more)); above = rw is' (omega arith) }
      where
        more : l / 1024 ≤ c
        more = ltb-false c (l / 1024) t

        is' : checkpoint_rule l c ≡ l
        is' = unfold checkpoint_rule in rw t refl

-- ---- the count that the cut rule keeps, where no checkpoint is lacking

pub cut_keeps : (k : Kind) (a : Areas) (E : List Entry) (r c n : ℕ) → State k a E r c → Kept k E r c n → length E / 1024 ≤ c → cut_rule k a ≡ n
cut_keeps k a E r c n s p h = go (dec_le (suc r) (length (rows_of k E)))
  where
    rows_lack : n < length E → (c < suc n / 1024) ⊎ (r < rows_in k E (suc n)) → r < rows_in k E (suc n)
    rows_lack q (inl t) = absurd (bad q t)
      where
        bad : n < length E → c < suc n / 1024 → ⊥
        bad q t = omega arith
    rows_lack q (inr t) = t

    go : Dec (suc r ≤ length (rows_of k E)) → cut_rule k a ≡ n
    go (yes q) = cut_next k a E r c s t ∙ same (dec_le (suc n) (length t.first)) (dec_le (suc (length t.first)) n)
      where
        t : NextRow k 0 r E
        t = next_row_lem k 0 r E q

        inside : length t.first < length E
        inside = omega (arith, next_total k r E t)

        same : Dec (suc n ≤ length t.first) → Dec (suc (length t.first) ≤ n) → length t.first ≡ n
        same (yes u) v = absurd (bad (rows_lack (omega (arith, inside)) (p.top (omega (arith, inside)))))
          where
            bad : r < rows_in k E (suc n) → ⊥
            bad w = omega (arith, rows_in_mono k E (suc n) (length t.first) u, next_before k r E t)
        same (no u) (yes v) = absurd bad
          where
            bad : ⊥
            bad = omega (arith, rows_in_mono k E (suc (length t.first)) n v, next_with k r E t, p.rows)
        same (no u) (no v) = omega arith
    go (no q) = no_false_cut k a E r c s (omega (arith, rows_inside k a E r c s)) ∙ same (dec_le (suc n) (length E))
      where
        same : Dec (suc n ≤ length E) → length E ≡ n
        same (yes u) = absurd (bad (rows_lack u (p.top u)))
          where
            bad : r < rows_in k E (suc n) → ⊥
            bad w = omega (arith, rows_in_mono k E (suc n) (length E) u, rows_in_all k E)
        same (no u) = omega (arith, p.inside)

-- ---- opening

module _ (k : Kind) (a : Areas) (F : List Entry) (p : Partial k a F) where
  abbrev m : ℕ
  m = checkpoint_rule (length p.E) p.c

  rule : Ruled (length p.E) p.c p.n
  rule = rule_keeps (length p.E) p.c p.n (checkpoints_inside k a p.E p.r p.c p.state) p.kept.inside p.kept.checkpoints

  ruled_is : ruled_count k a ≡ m
  unfolding ruled_count
  ruled_is = rw (count_is k a p.E p.r p.c p.state, checkpoint_fill k a p.E p.r p.c p.state) refl

  first : (j : ℕ) → Partial k (run j (truncate_places k m a) a) F
  first = truncating k a F p m rule.above rule.inside (omega (arith, rule.checkpoints))

  after_is : ruled k a ≡ run 3 (truncate_places k m a) a
  unfolding ruled
  after_is = rw ruled_is refl

  after_state : State k (ruled k a) (take m p.E) (min p.r (rows_in k p.E m)) (m / 1024)
  after_state = rw after_is (truncated_3 k a p.E p.r p.c p.state m rule.inside (omega (arith, rule.checkpoints)))

  after_kept : Kept k (take m p.E) (min p.r (rows_in k p.E m)) (m / 1024) p.n
  after_kept = kept_3 k p.E p.r p.c p.n p.kept m rule.above rule.inside (omega (arith, rule.checkpoints))

  after : Partial k (ruled k a) F
  after = record {
    E = take m p.E;
    r = min p.r (rows_in k p.E m);
    c = m / 1024;
    n = p.n;
    state = after_state;
    kept = after_kept;
    is = take-take p.n m p.E rule.above ∙ p.is;
  }

  cut_is : cut_rule k (ruled k a) ≡ p.n
  cut_is =
      cut_keeps k (ruled k a) (take m p.E) (min p.r (rows_in k p.E m)) (m / 1024) p.n after_state after_kept
      (rw (length-take-le m p.E rule.inside) (omega arith))

  places_are : open_places k a ≡ truncate_places k m a ++ truncate_places k p.n (ruled k a)
  unfolding open_places
  places_are = rw (ruled_is, cut_is) refl

  second : (j : ℕ) → Partial k (run j (truncate_places k p.n (ruled k a)) (ruled k a)) F
  unfolding after
  second = truncating k (ruled k a) F after p.n (le_refl p.n) after_kept.inside after_kept.checkpoints

  joined : (j : ℕ) → Partial k (run j (truncate_places k m a ++ truncate_places k p.n (ruled k a)) a) F
  unfolding run truncate_places
  joined zero = first 0
  joined (suc zero) = first 1
  joined (suc (suc zero)) = first 2
  joined (suc (suc (suc j))) = subst (λ (b : Areas). Partial k (run j (truncate_places k p.n (ruled k a)) b) F) after_is (second j)

  -- an opening torn at any place keeps the same list
  pub opening_torn : (j : ℕ) → Partial k (run j (open_places k a) a) F
  opening_torn j = rw places_are (joined j)

  whole : run 6 (truncate_places k m a ++ truncate_places k p.n (ruled k a)) a ≡ run 3 (truncate_places k p.n (ruled k a)) (ruled k a)
  unfolding run truncate_places
  whole = ap (run 3 (truncate_places k p.n (ruled k a))) (sym after_is)

  -- a finished one leaves it whole
  pub opening_done : Full k (run 6 (open_places k a) a) F
  unfolding after
  opening_done =
      rw (places_are, whole)
      (subst (Full k (run 3 (truncate_places k p.n (ruled k a)) (ruled k a))) after.is
      (rw (length-take-le p.n (take m p.E) after_kept.inside) (unfold rows_in in (rw (min-eq_right after_kept.rows) at done))))
    where
      done : State k (run 3 (truncate_places k p.n (ruled k a)) (ruled k a)) (take p.n (take m p.E)) (min (min p.r (rows_in k p.E m)) (rows_in k (take m p.E) p.n)) (p.n / 1024)
      done = truncated_3 k (ruled k a) (take m p.E) (min p.r (rows_in k p.E m)) (m / 1024) after_state p.n after_kept.inside after_kept.checkpoints
