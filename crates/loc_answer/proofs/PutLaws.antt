-- Words stored at a place, and the answers of a run of keys.
-- A run takes one key more at each turn, whatever words are right elsewhere.
use Prim.Native.Nat.{ℕ, ◌+◌, ◌-◌, ◌*◌, ◌^◌, ◌<◌, ◌≤◌, min}
use mathlib.Core.Path.{◌≡◌, sym, ap, ◌∙◌}
use mathlib.Core.Logic.{⊎_elim}
use mathlib.Core.List.{List, [], ◌∷◌}
use native.Mathlib.Nat.{eq-or-lt_of_le, le_of_suc-le-suc}
use native.Mathlib.Omega.{arith}
use lib.ListN.{length, get_or}
use borrow.Author.Rules.{rules}
use borrow.Rule.Slice.PartMut.{put_mid}
use Rattle.std.proofs.lemmas.List.{places}
use Rattle.loc_leaf.specs.declared.Kind.{Kind}
use Rattle.loc_leaf.specs.declared.Kind.TheVariants.{Paired, Single}
use Rattle.loc_leaf.specs.Kind.{within_window}
use Rattle.loc_calls.specs.Table.{word_width}
use Rattle.loc_calls.specs.Reading.{words}
use Rattle.loc_order.specs.Keys.{places_from, place_of, wanted_by}
use Rattle.loc_order.proofs.KeyLaws.{places_at}
use Rattle.loc_answer.specs.Words.{Has, Put, Summed, sum_words, RunSafe, Agrees, RunPut, SamePast}
use Rattle.loc_answer.proofs.AnswerLaws.{place_below, put_keeps}

-- ---- words stored at a place

pub stored : (w : ℕ) (o : List ℕ) (p n : ℕ) (ws ys : List ℕ) → n ≡ w → ys ≡ ws → length ws ≡ w → w * p + w ≤ length o → Put w o p ws (put_mid (w * p) n o ys)
unfolding Has
stored w o p n ws ys e d l h =
    rw (e, d)
    (record {
      long = search (rules, places);
      there = λ q g. search (rules, places);
      below = λ x g. search (rules, places);
      above = λ x g. search (rules, places);
    })

-- ---- the words of one record, by kind

-- starts saturate, lengths do not
pub put_paired : (k : Kind) (b s : ℕ) (body span : List ℕ) (j p start span_start : ℕ) (old new : List ℕ) → k ≡ Paired
    → start ≡ min (2 ^ 64 - 1) (b + 8 * get_or body j 0) → span_start ≡ min (2 ^ 64 - 1) (s + 8 * get_or span j 0)
    → Put 6 old p (1 ∷ start ∷ 8 * (get_or body (j + 1) 0 - get_or body j 0) ∷ span_start ∷ 8 * (get_or span (j + 1) 0 - get_or span j 0) ∷ (get_or span (j + 1) 0 - get_or span j 0) ∷ []) new
    → Put (word_width k) old p (sum_words k b s body span j) new
unfolding sum_words words
put_paired k b s body span j p start span_start old new e a c h = rw (e, ← a, ← c) h

-- the length is the difference of saturated ends
pub put_single : (k : Kind) (b s : ℕ) (body span : List ℕ) (j p start end : ℕ) (old new : List ℕ) → k ≡ Single
    → get_or body j 0 ≤ get_or body (j + 1) 0 → start ≡ min (2 ^ 64 - 1) (b + 8 * get_or body j 0) → end ≡ min (2 ^ 64 - 1) (b + 8 * get_or body (j + 1) 0)
    → Put 3 old p (1 ∷ start ∷ (end - start) ∷ []) new
    → Put (word_width k) old p (sum_words k b s body span j) new
unfolding sum_words words
put_single k b s body span j p start end old new e r a c h =
    let z : b + 8 * get_or body j 0 + 8 * (get_or body (j + 1) 0 - get_or body j 0) ≡ b + 8 * get_or body (j + 1) 0 = omega arith in
    rw (e, z, ← a, ← c) h

-- ---- the answers of a run

module _ (k : Kind) (ids keys : List ℕ) (from b s : ℕ) (body span : List ℕ) where
  -- words that agree with one key more agree with the run so far, and with its last key
  fewer : (t : ℕ) (W : ℕ → List ℕ) → Agrees k ids keys from (t + 1) b s body span W → Agrees k ids keys from t b s body span W
  unfolding Agrees
  fewer t W h u g l = h u g (omega arith)

  last_agrees : (t : ℕ) (W : ℕ → List ℕ) → from ≤ t → Agrees k ids keys from (t + 1) b s body span W → W (place_of (get_or keys t 0)) ≡ sum_words k b s body span (within_window (wanted_by ids keys t))
  unfolding Agrees
  last_agrees t W g h = h t g (omega arith)

  pub run_more : (t p j : ℕ) (old mid new : List ℕ) → from ≤ t → RunPut k ids keys from t b s body span old mid
      → p ≡ place_of (get_or keys t 0) → j ≡ within_window (get_or ids p 0)
      → Put (word_width k) mid p (sum_words k b s body span j) new → RunPut k ids keys from (t + 1) b s body span old new
  run_more t p j old mid new ft r ep ej u =
      let v : Put (word_width k) mid (place_of (get_or keys t 0)) (sum_words k b s body span (within_window (wanted_by ids keys t))) new = rw (ej, ep) at u in
      record {
        long = u.long ∙ r.long;
        put = λ W h x g l. ⊎_elim
            (λ (e : x ≡ t). rw (e, last_agrees t W ft h) v.there)
            (λ (m : x < t). put_keeps (word_width k) mid new _ (place_of (get_or keys t 0)) v W (last_agrees t W ft h) (place_of (get_or keys x 0)) (r.put W (fewer t W h) x g m))
            (eq-or-lt_of_le (le_of_suc-le-suc (omega arith)));
        kept = λ W h x g. put_keeps (word_width k) mid new _ (place_of (get_or keys t 0)) v W (last_agrees t W ft h) x (r.kept W (fewer t W h) x g);
      }

-- what a turn asks: its record's sums stand in the arrays
pub run_summed : (k : Kind) (ids keys : List ℕ) (from end : ℕ) (body span out : List ℕ) → RunSafe k ids keys from end body span out
    → (t : ℕ) → from ≤ t → t < end → (j : ℕ) → j ≡ within_window (wanted_by ids keys t) → Summed body span j
run_summed k ids keys from end body span out r t g l j e = rw e (r.summed t g l)

-- ---- the answers of a whole list

-- a turn asks its place's words, which lie before the end of all, and keeps what is past them
pub put_past : (w p n : ℕ) (old mid new ws : List ℕ) → p < n → SamePast (w * n) old mid → Put w mid p ws new → SamePast (w * n) old new
put_past w p n old mid new ws h s u y g = u.above y (omega (arith, place_below w p n h)) ∙ s y g

-- place p of a list that is taken in its own order
pub own_place : (n p : ℕ) → n ≤ 1024 → p < n → p ≡ place_of (get_or (places_from 0 n) p 0)
own_place n p h g = sym (places_at n p h g)

pub own_wanted_lem : (ids : List ℕ) (n p j : ℕ) → n ≤ 1024 → p < n → j ≡ within_window (get_or ids p 0) → j ≡ within_window (wanted_by ids (places_from 0 n) p)
own_wanted_lem ids n p j h g e = e ∙ ap (λ (q : ℕ). within_window (get_or ids q 0)) (own_place n p h g)
