-- What is shown after a call, by each way through the code: the line of its refusal, or the listing of the areas that it left.
-- The call's outcome is known by its answer and its areas.
use Prim.Native.Nat.{ℕ, zero, suc, ◌≤◌}
use mathlib.Core.Path.{◌≡◌, refl, sym, ◌∙◌, subst}
use mathlib.Core.List.{List}
use lib.ListN.{length}
use Rattle.loc_leaf.specs.Answers.{Answer}
use Rattle.loc_calls.specs.Areas.{Areas}
use Rattle.loc_calls.specs.Calls.{Outcome, unless_refused, create}
use Rattle.loc_calls.specs.Promises.{Stored}
use Rattle.loc_parse.specs.Import.{append_listing}
use Rattle.loc_listing.specs.Text.{refused_text, Put}
use Rattle.loc_print.specs.Printed.{listing_text, shown}

module _ (o : Outcome) (r : Answer) (a : Areas) (s : Stored o r a) (out out₁ : List ℕ) (k : ℕ) where
  shown_is : shown o (length out) ≡ unless_refused r.number (listing_text a (length out)) (refused_text r.number (length out))
  unfolding shown
  shown_is = rw (← s.0, ← s.1) refl

  pub refusal_shown : (r.number ≡ 0 → ⊥) → Put out 0 (refused_text r.number (length out)) out₁ k × (k ≤ length out) × (k ≤ 29)
      → (a ≡ o.areas) × Put out 0 (shown o (length out)) out₁ k × (k ≤ length out)
  refusal_shown h p = (s.1, subst (λ (t : List ℕ). Put out 0 t out₁ k) (sym (shown_is ∙ go r.number h)) p.0, p.1)
    where
      go : (n : ℕ) → (n ≡ 0 → ⊥) → unless_refused n (listing_text a (length out)) (refused_text n (length out)) ≡ refused_text n (length out)
      go zero h = absurd (h refl)
      go (suc n) h = unfold unless_refused in refl

  pub listing_shown : r.number ≡ 0 → Put out 0 (listing_text a (length out)) out₁ k × (k ≤ length out)
      → (a ≡ o.areas) × Put out 0 (shown o (length out)) out₁ k × (k ≤ length out)
  unfolding unless_refused
  listing_shown z p = (s.1, rw (shown_is, z) p.0, p.1)

-- a listing appended to areas that were made anew
pub to_created : (xs : List ℕ) (a c d : Areas) (q r : Answer) → Stored (create a) q c → Stored (append_listing 4 xs c) r d → Stored (append_listing 4 xs (create a).areas) r d
to_created xs a c d q r s t = subst (λ (x : Areas). Stored (append_listing 4 xs x) r d) s.1 t
