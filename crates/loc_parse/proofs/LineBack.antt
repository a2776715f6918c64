-- A printed line read back: its six numbers, and the place after it.
-- Whatever stands before and after the line.
use Prim.Native.Nat.{ℕ, ◌+◌, ◌-◌, ◌^◌, ◌≤◌, ◌<◌}
use mathlib.Core.Path.{◌≡◌, refl, ap, ◌∙◌}
use mathlib.Core.List.{List, [], ◌∷◌, ◌++◌, append_assoc}
use native.Mathlib.Omega.{arith}
use lib.ListN.{length, length-append}
use Rattle.std.specs.Prelude.{Some}
use Rattle.loc_listing.specs.Text.{decimal, line}
use Rattle.loc_number.specs.Decimal.{number_at}
use Rattle.loc_number.proofs.SpellLaws.{read_decimal}
use Rattle.loc_parse.specs.Lines.{Line, ◌then◌, line_at}

-- ---- one number, ended by a space or a line feed

-- it is read where `front` ends, and what follows it is read on from there
back : (most end : ℕ) → end < 48 → (v : ℕ) (front ys text : List ℕ) → v < 2 ^ 64 → v ≤ most → text ≡ front ++ (decimal v ++ (end ∷ ys)) → (f : ℕ → ℕ → Line) (l : Line)
    → ((past : List ℕ) → text ≡ past ++ ys → past ≡ front ++ (decimal v ++ (end ∷ [])) → f v (length past) ≡ l) → (number_at most end text (length front) then f) ≡ l
unfolding ◌then◌
back most end g v front ys text h l e f r more = rw (is_read) (more (front ++ (decimal v ++ (end ∷ []))) (e ∙ simp append_assoc) refl)
  where
    place : length front + length (decimal v) + 1 ≡ length (front ++ (decimal v ++ (end ∷ [])))
    place = omega (arith, length-append front (decimal v ++ (end ∷ [])), length-append (decimal v) (end ∷ []))

    is_read : number_at most end text (length front) ≡ Some (v, length (front ++ (decimal v ++ (end ∷ []))))
    is_read = rw e (read_decimal most end (λ q s t. omega arith) v front ys h l ∙ ap (λ (p : ℕ). Some (v, p)) place)

-- ---- six

module _ (a b c d e f : ℕ) (xs ys : List ℕ) where
  abbrev text : List ℕ
  text = xs ++ (line (a ∷ b ∷ c ∷ d ∷ e ∷ f ∷ []) ++ ys)

  spelled : text ≡ xs ++ (decimal a ++ (32 ∷ (decimal b ++ (32 ∷ (decimal c ++ (32 ∷ (decimal d ++ (32 ∷ (decimal e ++ (32 ∷ (decimal f ++ (10 ∷ ys))))))))))))
  unfolding line
  spelled = simp append_assoc

  pub line_back : a < 2 ^ 64 → b < 2 ^ 64 → c < 2 ^ 64 → d < 2 ^ 64 → e < 2 ^ 64 → f < 2 ^ 32
      → line_at text (length xs) ≡ Some (record { number = a; start = b; len = c; span_start = d; span_len = e; spans = f }, length (xs ++ line (a ∷ b ∷ c ∷ d ∷ e ∷ f ∷ [])))
  unfolding line_at line
  line_back ha hb hc hd he hf =
      back (2 ^ 64 - 1) 32 (omega arith) a xs _ text (omega arith) (omega arith) spelled _ _ λ p₁ t₁ q₁.
      back (2 ^ 64 - 1) 32 (omega arith) b p₁ _ text (omega arith) (omega arith) t₁ _ _ λ p₂ t₂ q₂.
      back (2 ^ 64 - 1) 32 (omega arith) c p₂ _ text (omega arith) (omega arith) t₂ _ _ λ p₃ t₃ q₃.
      back (2 ^ 64 - 1) 32 (omega arith) d p₃ _ text (omega arith) (omega arith) t₃ _ _ λ p₄ t₄ q₄.
      back (2 ^ 64 - 1) 32 (omega arith) e p₄ _ text (omega arith) (omega arith) t₄ _ _ λ p₅ t₅ q₅.
      back (2 ^ 32 - 1) 10 (omega arith) f p₅ ys text (omega arith) (omega arith) t₅ _ _ λ p₆ t₆ q₆.
      rw (q₆, q₅, q₄, q₃, q₂, q₁) (simp append_assoc)
