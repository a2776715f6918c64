-- The lines of a load put one after the other, and the whole text of an answer, in the form in which the code meets them.
-- Whoever puts the lines that are left has put all of them.
use Prim.Native.Nat.{ℕ, zero, suc, ◌+◌, ◌-◌, ◌*◌, ◌%◌, ◌≤◌, ◌<◌}
use mathlib.Core.Path.{◌≡◌, refl, subst}
use mathlib.Core.Bool.{cond}
use mathlib.Core.List.{List, [], ◌∷◌}
use native.Mathlib.Numerals.{add-one}
use native.Mathlib.Omega.{arith}
use lib.Dec.{leb}
use lib.ListN.{length, take, drop}
use borrow.Author.Tests.{le-leb, lt-leb}
use borrow.Rule.Slice.PartMut.{put_mid}
use Rattle.loc_calls.specs.Calls.{unless_refused}
use Rattle.loc_history.specs.History.{placed}
use Rattle.loc_listing.specs.Text.{line, names, line_text, names_text, refused_text, Put}
use Rattle.loc_listing.specs.Listing.{entry_line, entry_lines}
use Rattle.loc_listing.proofs.TextLaws.{put_then, put_nothing, line_part}
use Rattle.loc_load.specs.Xorshift.{xorshift}
use Rattle.loc_load.specs.Load.{drawn, load, load_entries, load_listing}
use Rattle.loc_load.specs.Request.{Asked, requested, load_text}

-- ---- lines

module _ (seed n : ℕ) (out₀ : List ℕ) (at₀ : ℕ) where
  -- after i lines, where the state is x and the next record's body and spans start
  abbrev pub Left : List ℕ → ℕ → ℕ → ℕ → ℕ → ℕ → Type 0
  Left out at x body span i = (l : List ℕ) (p : ℕ) → Put out at (entry_lines i (placed body span (load x (n - i)))) l p → Put out₀ at₀ (entry_lines 0 (load_entries seed n)) l p

  pub all_left : Left out₀ at₀ seed 16 16 0
  all_left l p f =
      let none : n - 0 ≡ n = omega arith in
      subst (λ (m : ℕ). Put out₀ at₀ (entry_lines 0 (placed 16 16 (load seed m))) l p) none f

  module _ (out : List ℕ) (at x body span i : ℕ) (left : Left out at x body span i) where
    pub none_left : n ≤ i → Put out₀ at₀ (entry_lines 0 (load_entries seed n)) out at
    unfolding entry_lines placed load
    none_left h =
        let none : n - i ≡ 0 = omega arith in
        left out at (rw none (put_nothing out at))

    -- one line more: by the next two draws
    module _ (a b len span_len spans : ℕ) (first : a ≡ xorshift x) (second : b ≡ xorshift a) (is-len : len ≡ 8 * (1 + a % 300)) (is-spans : spans ≡ 1 + b % 300) (is-span-len : span_len ≡ 8 * spans) where
      pub one_left : i < n → 126 ≤ length out - at → (ys : List ℕ) (r : ℕ)
          → Put (take (length out - at) (drop at out)) 0 (line_text ((i + 1) ∷ body ∷ len ∷ span ∷ span_len ∷ spans ∷ []) (length (take (length out - at) (drop at out)))) ys r
          → Left (put_mid at (length out - at) out ys) (at + r) b (body + len) (span + span_len) (i + 1)
      unfolding entry_lines entry_line placed load drawn
      one_left h room ys r f l p g =
          left l p
          (rw (more, ← first, ← second, ← is-len, ← is-spans, ← is-span-len)
          (put_then (line (suc i ∷ body ∷ len ∷ span ∷ span_len ∷ spans ∷ [])) _ (line_part _ out at ys r room (rw add-one at f)) (rw add-one at g)))
        where
          more : n - i ≡ suc (n - suc i)
          more = omega arith

-- ---- a listing

-- after the line of names
pub names_then : (seed n : ℕ) (out out₁ out₂ : List ℕ) (p at : ℕ) → 53 ≤ length out → Put out 0 (names_text (length out)) out₁ p → Put out₁ p (entry_lines 0 (load_entries seed n)) out₂ at
    → Put out 0 (load_listing seed n) out₂ at
unfolding names_text load_listing
names_then seed n out out₁ out₂ p at h f g = put_then names (entry_lines 0 (load_entries seed n)) (rw (le-leb 53 (length out) h) at f) g

-- ---- an answer

module _ (xs : List ℕ) (q : Asked) (is : q ≡ requested xs) (out : List ℕ) where
  pub answer_none : q.number ≡ 0 → length out < 53 + 126 * q.records → Put out 0 (load_text (requested xs) (length out)) out 0
  unfolding load_text unless_refused
  answer_none e h = rw (← is, e, lt-leb (53 + 126 * q.records) (length out) h) (put_nothing out 0)

  module _ (out₁ : List ℕ) (r : ℕ) where
    pub answer_put : q.number ≡ 0 → 53 + 126 * q.records ≤ length out → Put out 0 (load_listing q.seed q.records) out₁ r → Put out 0 (load_text (requested xs) (length out)) out₁ r
    unfolding load_text unless_refused
    answer_put e h f = rw (← is, e, le-leb (53 + 126 * q.records) (length out) h) f

    pub answer_refused : (q.number ≡ 0 → ⊥) → Put out 0 (refused_text q.number (length out)) out₁ r → Put out 0 (load_text (requested xs) (length out)) out₁ r
    unfolding load_text unless_refused
    answer_refused h f = rw (← is) (go q.number h f)
      where
        go : (k : ℕ) → (k ≡ 0 → ⊥) → Put out 0 (refused_text k (length out)) out₁ r
            → Put out 0 (unless_refused k (cond (leb (53 + 126 * q.records) (length out)) (load_listing q.seed q.records) []) (refused_text k (length out))) out₁ r
        go zero h f = absurd (h refl)
        go (suc k) h f = f
