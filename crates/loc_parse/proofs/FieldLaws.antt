-- One number of a whole line: what it is read from, its bound, and the place after it.
-- The laws of a line go through its six numbers by this one.
use Prim.Native.Nat.{ℕ, ◌+◌, ◌^◌, ◌≤◌, ◌<◌}
use mathlib.Core.Path.{◌≡◌, refl}
use mathlib.Core.List.{List, ◌∷◌, ◌++◌}
use lib.ListN.{drop}
use Rattle.std.specs.Prelude.{Option, Some, None}
use Rattle.std.proofs.lemmas.Option.{none-some}
use Rattle.loc_listing.specs.Text.{decimal}
use Rattle.loc_number.specs.Decimal.{number_at}
use Rattle.loc_number.proofs.SpellLaws.{number_small, number_text, number_near}
use Rattle.loc_parse.specs.declared.Fields.{Fields}
use Rattle.loc_parse.specs.Lines.{Line, ◌then◌}

module _ (most end : ℕ) (few : most < 2 ^ 64) (xs : List ℕ) (at : ℕ) where
  -- a line that begins with it is whole: so is what follows it
  pub field : {R : Type 0} (f : ℕ → ℕ → Line) (t : Fields) (next : ℕ) → (number_at most end xs at then f) ≡ Some (t, next)
      → ((v p : ℕ) → drop at xs ≡ decimal v ++ (end ∷ drop p xs) → v ≤ most → p ≤ at + 21 → f v p ≡ Some (t, next) → R) → R
  unfolding ◌then◌
  field {R} f t next e then' = go (number_at most end xs at) refl e
    where
      go : (n : Option (ℕ × ℕ)) → number_at most end xs at ≡ n → (n then f) ≡ Some (t, next) → R
      go None q w = absurd (none-some _ w)
      go (Some (v, p)) q w = then' v p (number_text most end few xs at v p q) (number_small most end few xs at v p q) (number_near most end few xs at v p q) w
