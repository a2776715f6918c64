-- The pass, turn by turn: how it begins, a pair without a mark, a pair that counts, and what is found at its end.
-- `found_needed`: the components that are found are what the record needs.
use Prim.Native.Nat.{ℕ, suc, ◌+◌, ◌-◌, ◌≤◌, ◌<◌}
use mathlib.Core.Path.{◌≡◌, refl, sym, ap, ◌∙◌, subst}
use mathlib.Core.Logic.{◌⊎◌, inl, inr}
use mathlib.Core.Bool.{Bool, true, false, false≢true}
use mathlib.Core.List.{List, [], ◌∷◌}
use native.Mathlib.Omega.{arith}
use lib.Dec.{ltb, eqb}
use lib.ListN.{length, get_or, drop, set, length-set}
use lib.Seq.{drop-length, drop-cons, drop-set-lt, get_or-set_same}
use borrow.Author.Tests.{ltb-true, ltb-false, eqb-true, eqb-false}
use Rattle.loc_leaf.proofs.Booleans.{is?}
use Rattle.loc_calls.specs.Parts.{PairOf, Needs, direct, through, Fit, member, MembersNeeded}
use Rattle.loc_calls.proofs.Members.{no_member, member_first, member_later, member_cases}
use Rattle.loc_calls.proofs.Needed.{needs_more, needs_falls}
use Rattle.loc_parts.specs.Pass.{PairsEnd, marked, LastOwn, HasMark, Marked, Stands, Entered, Wanted, Walking}

-- ---- the list of components, as it grows

-- p is in the new list, which has else what the old one has
pub record Grown (p : ℕ) (old new : List ℕ) : Type 0 where
  pub there : member p new ≡ true
  pub kept : (y : ℕ) → member y old ≡ true → member y new ≡ true
  pub only : (y : ℕ) → member y new ≡ true → (p ≡ y) ⊎ (member y old ≡ true)

pub grown_before : (p : ℕ) (l : List ℕ) → member p l ≡ true → Grown p l l
grown_before p l e = record { there = e; kept = λ y t. t; only = λ y t. inr t }

pub grown_now : (p : ℕ) (l : List ℕ) → Grown p l (p ∷ l)
grown_now p l = record { there = member_first p l; kept = λ y t. member_later p l y t; only = λ y t. member_cases p l y t }

-- ---- turns

module _ (cs ps : List ℕ) (x : ℕ) where
  -- at the end of the record's own pairs
  pub walking_begins : (marks new : List Bool) (seen : List ℕ) (r : ℕ) → PairsEnd cs (length cs) x r → ((j : ℕ) → marked marks j → ⊥) → {b : Bool} → Marked cs r x marks new b
      → ((h : ℕ) → get_or seen h 0 ≡ 0) → Walking cs ps x new seen [] r
  walking_begins marks new seen r w none g clear = record {
    inside = w.inside;
    chained = λ y e. absurd (no_member y e);
    closed = λ j a b t. absurd (own_only t (w.past j a b));
    sound = λ j q. inl (own_mark j (g.own j q));
    full = λ j h t last. g.last j h (own_is t) last;
    met = λ h l. absurd (omega (arith, clear h));
  }
    where
      own_is : {c : ℕ} → Wanted x [] c → c ≡ x
      own_is (inl e) = e
      own_is {c} (inr e) = absurd (no_member c e)

      own_only : {c : ℕ} → Wanted x [] c → (c ≡ x → ⊥) → ⊥
      own_only t n = n (own_is t)

      own_mark : (j : ℕ) → marked marks j ⊎ (get_or cs j 0 ≡ x) → get_or cs j 0 ≡ x
      own_mark j (inl q) = absurd (none j q)
      own_mark j (inr q) = q

  module _ (marks : List Bool) (seen found : List ℕ) (i : ℕ) (w : Walking cs ps x marks seen found (i + 1)) where
    abbrev c : ℕ
    c = get_or cs i 0

    abbrev p : ℕ
    p = get_or ps i 0

    -- the last pair before i of a composite that differs from that at i is its last before i + 1
    still_last : (j : ℕ) → j < i → LastOwn cs i j → (get_or cs j 0 ≡ c → ⊥) → LastOwn cs (i + 1) j
    still_last j h last ne l e = go (is? (ltb (suc j) i))
      where
        go : (ltb (suc j) i ≡ true) ⊎ (ltb (suc j) i ≡ false) → ⊥
        go (inl t) = last (ltb-true (suc j) i t) e
        go (inr t) =
            let z : suc j ≡ i = omega (arith, ltb-false (suc j) i t) in
            ne (sym e ∙ ap (λ (v : ℕ). get_or cs v 0) z)

    -- a place from i on is i, or one after it
    module _ {R : Type 0} (j : ℕ) (a : i ≤ j) (here : j ≡ i → R) (later : i + 1 ≤ j → R) where
      here_or_later : R
      here_or_later = go (is? (ltb i j))
        where
          go : (ltb i j ≡ true) ⊎ (ltb i j ≡ false) → R
          go (inl t) = later (omega (arith, ltb-true i j t))
          go (inr t) = here (omega (arith, ltb-false i j t))

    -- the pair at i has no mark
    pub walking_past : (marked marks i → ⊥) → Walking cs ps x marks seen found i
    walking_past none = record {
      inside = omega (arith, w.inside);
      chained = w.chained;
      closed = λ j a b t. here_or_later j a (λ e. absurd (unwanted (subst (λ (v : ℕ). Wanted x found (get_or cs v 0)) e t))) (λ l. w.closed j l b t);
      sound = w.sound;
      full = λ j h t last. w.full j (omega arith) t (still_last j h last (λ e. unwanted (subst (Wanted x found) e t)));
      met = w.met;
    }
      where
        unwanted : Wanted x found c → ⊥
        unwanted t = none (w.full i (omega arith) t (λ l e. absurd (omega arith)))

    -- it has one: it marked the last pairs before it of its composite and its component, which is found
    module _ (fit : Fit cs ps) (mark : marked marks i) (marks₁ : List Bool) {b₁ : Bool} (g : Marked cs i c marks marks₁ b₁) where
      falls : p < c
      falls = fit.below i (omega (arith, w.inside))

      want : Wanted x found c
      want = w.sound i mark

      needs_own : Needs cs ps x p
      needs_own = go want
        where
          own : PairOf cs ps c p
          own = record { place = i; inside = omega (arith, w.inside); composite = refl; component = refl }

          go : Wanted x found c → Needs cs ps x p
          go (inl e) = direct (subst (λ (v : ℕ). PairOf cs ps v p) e own)
          go (inr e) = needs_more cs ps (w.chained c e) own

      -- a wanted composite's last pair before i has a mark
      full_before : (j : ℕ) → j < i → Wanted x found (get_or cs j 0) → LastOwn cs i j → marked marks₁ j
      full_before j h t last = go (is? (eqb (get_or cs j 0) c))
        where
          go : (eqb (get_or cs j 0) c ≡ true) ⊎ (eqb (get_or cs j 0) c ≡ false) → marked marks₁ j
          go (inl e) = g.last j h (eqb-true (get_or cs j 0) c e) last
          go (inr e) = g.kept j (w.full j (omega arith) t (still_last j h last (eqb-false (get_or cs j 0) c e)))

      sound_after : (j : ℕ) → marked marks j ⊎ (get_or cs j 0 ≡ c) → Wanted x found (get_or cs j 0)
      sound_after j (inl q) = w.sound j q
      sound_after j (inr q) = subst (Wanted x found) (sym q) want

      module _ (marks₂ : List Bool) (seen₁ found₁ : List ℕ) {b₂ : Bool} (k : Marked cs i p marks₁ marks₂ b₂) (n : Grown p found found₁) (entries : (h : ℕ) → (get_or seen₁ h 0 ≡ p) ⊎ (get_or seen₁ h 0 ≡ get_or seen h 0)) where
        still_wanted : {y : ℕ} → Wanted x found y → Wanted x found₁ y
        still_wanted (inl e) = inl e
        still_wanted {y} (inr e) = inr (n.kept y e)

        wanted_before : (y : ℕ) → Wanted x found₁ y → (p ≡ y) ⊎ Wanted x found y
        wanted_before y (inl e) = inr (inl e)
        wanted_before y (inr e) = go (n.only y e)
          where
            go : (p ≡ y) ⊎ (member y found ≡ true) → (p ≡ y) ⊎ Wanted x found y
            go (inl q) = inl q
            go (inr q) = inr (inr q)

        walking_on : Walking cs ps x marks₂ seen₁ found₁ i
        walking_on = record {
          inside = omega (arith, w.inside);
          chained = λ y e. chained_at y (n.only y e);
          closed = λ j a b t. closed_at j a b (wanted_before (get_or cs j 0) t);
          sound = λ j q. sound_at j (k.own j q);
          full = λ j h t last. full_at j h (wanted_before (get_or cs j 0) t) last;
          met = λ h l. met_at h l (entries h);
        }
          where
            chained_at : (y : ℕ) → (p ≡ y) ⊎ (member y found ≡ true) → Needs cs ps x y
            chained_at y (inl e) = subst (Needs cs ps x) e needs_own
            chained_at y (inr e) = w.chained y e

            -- no composite from i on is as low as p
            closed_at : (j : ℕ) → i ≤ j → j < length cs → (p ≡ get_or cs j 0) ⊎ Wanted x found (get_or cs j 0) → member (get_or ps j 0) found₁ ≡ true
            closed_at j a b (inl e) = absurd (omega (arith, falls, fit.order i j a b))
            closed_at j a b (inr t) =
                here_or_later j a
                (λ e. subst (λ (v : ℕ). member (get_or ps v 0) found₁ ≡ true) (sym e) n.there)
                (λ l. n.kept (get_or ps j 0) (w.closed j l b t))

            sound_at : (j : ℕ) → marked marks₁ j ⊎ (get_or cs j 0 ≡ p) → Wanted x found₁ (get_or cs j 0)
            sound_at j (inl q) = still_wanted (sound_after j (g.own j q))
            sound_at j (inr q) = inr (rw q n.there)

            full_at : (j : ℕ) → j < i → (p ≡ get_or cs j 0) ⊎ Wanted x found (get_or cs j 0) → LastOwn cs i j → marked marks₂ j
            full_at j h (inl e) last = k.last j h (sym e) last
            full_at j h (inr t) last = k.kept j (full_before j h t last)

            met_at : (h : ℕ) → 0 < get_or seen₁ h 0 → (get_or seen₁ h 0 ≡ p) ⊎ (get_or seen₁ h 0 ≡ get_or seen h 0) → member (get_or seen₁ h 0) found₁ ≡ true
            met_at h l (inl e) = rw e n.there
            met_at h l (inr e) = rw e (n.kept (get_or seen h 0) (w.met h (omega arith)))

      -- a component that is taken
      pub walking_more : (marks₂ : List Bool) (seen₁ : List ℕ) {b d : Bool} → Entered p seen seen₁ b → Marked cs i p marks₁ marks₂ d → Walking cs ps x marks₂ seen₁ (p ∷ found) i
      walking_more marks₂ seen₁ v k = walking_on marks₂ seen₁ (p ∷ found) k (grown_now p found) v.entries

      -- one whose last pair has its mark: it is found, since it is not the record
      pub walking_marked : (marks₂ : List Bool) (seen₁ : List ℕ) {b d : Bool} → Entered p seen seen₁ b → Marked cs i p marks₁ marks₂ d → d ≡ true → Walking cs ps x marks₂ seen₁ found i
      walking_marked marks₂ seen₁ v k t = walking_on marks₂ seen₁ found k (grown_before p found known) v.entries
        where
          had : HasMark cs p marks₁
          had = k.before t

          up_to : Wanted x found c → c ≤ x
          up_to (inl e) = omega arith
          up_to (inr e) = omega (arith, needs_falls cs ps fit.below (w.chained c e))

          not_record : Wanted x found (get_or cs had.place 0) → member p found ≡ true
          not_record (inl e) = absurd (omega (arith, e, had.composite, falls, up_to want))
          not_record (inr e) = subst (λ (y : ℕ). member y found ≡ true) had.composite e

          known : member p found ≡ true
          known = not_record (sound_after had.place (g.own had.place had.mark))

      -- one that stands in the table: it is found, and its last pair has its mark
      pub walking_again : (seen₁ : List ℕ) {b : Bool} → Entered p seen seen₁ b → b ≡ false → Walking cs ps x marks₁ seen₁ found i
      walking_again seen₁ v old = walking_on marks₁ seen₁ found stays (grown_before p found known) v.entries
        where
          known : member p found ≡ true
          known =
              let q : Stands p seen = v.there old in
              subst (λ (y : ℕ). member y found ≡ true) q.is (w.met q.place (omega (arith, q.is, fit.some i (omega (arith, w.inside)))))

          stays : Marked cs i p marks₁ marks₁ false
          stays = record { own = λ j q. inl q; kept = λ j q. q; last = λ j h e last. full_before j h (inr (rw e known)) last; before = λ t. absurd (false≢true t) }

  -- ---- the end

  module _ (marks : List Bool) (seen found : List ℕ) (w : Walking cs ps x marks seen found 0) where
    pair_found : {a y : ℕ} → PairOf cs ps a y → Wanted x found a → member y found ≡ true
    pair_found v t =
        subst (λ (y : ℕ). member y found ≡ true) v.component
        (w.closed v.place (omega arith) v.inside (subst (Wanted x found) (sym v.composite) t))

    chain_found : {a y : ℕ} → Needs cs ps a y → Wanted x found a → member y found ≡ true
    chain_found (direct v) t = pair_found v t
    chain_found (through v n) t = chain_found n (inr (pair_found v t))

    pub found_needed : MembersNeeded cs ps x found
    found_needed = record { chained = w.chained; listed = λ y n. chain_found n (inl refl) }

-- ---- the stage, at whose end the components stand

module _ (cs ps : List ℕ) (x : ℕ) (marks : List Bool) (seen stage : List ℕ) where
  pub place_is : (s i j : ℕ) → i ≡ j → Walking cs ps x marks seen (drop s stage) i → Walking cs ps x marks seen (drop s stage) j
  place_is s i j e w = subst (Walking cs ps x marks seen (drop s stage)) e w

  pub stage_begins : (i : ℕ) → Walking cs ps x marks seen [] i → Walking cs ps x marks seen (drop (length stage) stage) i
  stage_begins i w = subst (λ (l : List ℕ). Walking cs ps x marks seen l i) (sym (drop-length stage)) w

  pub stage_more : (s p i : ℕ) → 0 < s → s ≤ length stage → Walking cs ps x marks seen (p ∷ drop s stage) i → Walking cs ps x marks seen (drop (s - 1) (set stage (s - 1) p)) i
  stage_more s p i h l w = subst (λ (m : List ℕ). Walking cs ps x marks seen m i) (sym put) w
    where
      next : suc (s - 1) ≡ s
      next = omega arith

      put : drop (s - 1) (set stage (s - 1) p) ≡ p ∷ drop s stage
      put =
          drop-cons (set stage (s - 1) p) (s - 1) 0 (rw (length-set stage (s - 1) p) (omega arith))
          ∙ (λ t. get_or-set_same stage (s - 1) p 0 (omega arith) t ∷ drop (next t) (set stage (s - 1) p))
          ∙ ap (λ (m : List ℕ). p ∷ m) (drop-set-lt s stage (s - 1) p (omega arith))
