-- A text of more bytes than a listing has says what its first 129,078 bytes say.
-- A number ends within 21 bytes, and a line within 126.
use Prim.Native.Nat.{ℕ, zero, suc, ◌+◌, ◌-◌, ◌*◌, ◌^◌, ◌≤◌, ◌<◌}
use mathlib.Core.Path.{◌≡◌, refl, sym, ap, ◌∙◌, subst}
use mathlib.Core.Bool.{Bool, true, false, cond, not, ◌&&◌}
use mathlib.Core.List.{List, [], ◌∷◌, ◌++◌}
use native.Mathlib.Nat.{pow-suc, add-zero, add-suc, suc-add, pow-le-pow_right, lt_of_lt_of_le}
use native.Mathlib.Decide.{dec_le}
use native.Mathlib.Omega.{arith}
use lib.Dec.{eqb}
use lib.ListN.{length, take, drop, length-append, length-drop, take-append-drop}
use lib.Seq.{length-take-le, take_all, drop-append-le}
use borrow.Author.Tests.{lt-leb}
use Rattle.std.specs.Prelude.{Option, Some, None}
use Rattle.std.proofs.lemmas.Option.{some_pair_parts}
use Rattle.loc_leaf.proofs.Booleans.{both_right}
use Rattle.loc_calls.specs.Table.{Batch}
use Rattle.loc_calls.specs.Calls.{unless_refused}
use Rattle.loc_number.specs.Decimal.{with, goes_on, digits_on, starts_at, number_at}
use Rattle.loc_number.proofs.NumberLaws.{goes_within}
use Rattle.loc_number.proofs.SpellLaws.{number_near}
use Rattle.loc_listing.specs.Text.{names, begins}
use Rattle.loc_listing.proofs.NamesLaws.{names_long}
use Rattle.loc_parse.specs.declared.Fields.{Fields}
use Rattle.loc_parse.specs.Lines.{Line, ◌then◌, line_at, fields_refusal, Parsed, parsed_as, added, if_whole, lines_from, empty, parsed}
use Rattle.loc_parse.proofs.FieldLaws.{field}

-- ---- numbers

module _ (most end : ℕ) where
  -- digits that are not 0 in front, with fewer bytes left than the limit has room for
  digits_same : (bs zs : List ℕ) (j v at : ℕ) → 10 ^ j ≤ v → v ≤ most → most < 10 ^ (j + length bs) → digits_on most end v at (bs ++ zs) ≡ digits_on most end v at bs
  unfolding digits_on
  digits_same [] zs j v at h l g = absurd (omega (arith, ap (λ (i : ℕ). 10 ^ i) (add-zero j)))
  digits_same (b ∷ bs) zs j v at h l g = go (eqb b end) (not (eqb v 0) && goes_on most v b) refl (digits_same bs zs (suc j) (with v b) (at + 1))
    where
      go : (s t : Bool) → (not (eqb v 0) && goes_on most v b) ≡ t
          → (10 ^ suc j ≤ with v b → with v b ≤ most → most < 10 ^ (suc j + length bs) → digits_on most end (with v b) (at + 1) (bs ++ zs) ≡ digits_on most end (with v b) (at + 1) bs)
          → cond s (Some (v, at + 1)) (cond t (digits_on most end (with v b) (at + 1) (bs ++ zs)) None) ≡ cond s (Some (v, at + 1)) (cond t (digits_on most end (with v b) (at + 1) bs) None)
      go true t q more = refl
      go false false q more = refl
      go false true q more =
          more (omega (arith, pow-suc 10 j)) (goes_within most v b (both_right (not (eqb v 0)) (goes_on most v b) q))
          (subst (λ (i : ℕ). most < 10 ^ i) (add-suc j (length bs) ∙ sym (suc-add j (length bs))) g)

  -- a first digit 0 is followed by the end, or by nothing that goes on
  zero_same : (b : ℕ) (bs zs : List ℕ) (at : ℕ) → digits_on most end 0 at ((b ∷ bs) ++ zs) ≡ digits_on most end 0 at (b ∷ bs)
  unfolding digits_on
  zero_same b bs zs at = refl

  -- the number at a place with 21 bytes from it on
  starts_same : (xs zs : List ℕ) (at : ℕ) → 21 ≤ length xs → most < 10 ^ 20 → starts_at most end at (xs ++ zs) ≡ starts_at most end at xs
  unfolding starts_at
  starts_same [] zs at h g = absurd (omega arith)
  starts_same (b ∷ []) zs at h g = absurd (omega arith)
  starts_same (b ∷ c ∷ bs) zs at h g = go (goes_on most 0 b) refl (dec_le (b - 48) 0)
    where
      go : (t : Bool) → goes_on most 0 b ≡ t → Dec (b - 48 ≤ 0) → cond t (digits_on most end (b - 48) (at + 1) ((c ∷ bs) ++ zs)) None ≡ cond t (digits_on most end (b - 48) (at + 1) (c ∷ bs)) None
      go false q d = refl
      go true q (yes d) =
          let none : b - 48 ≡ 0 = omega arith in
          ap (λ (v : ℕ). digits_on most end v (at + 1) ((c ∷ bs) ++ zs)) none ∙ zero_same c bs zs (at + 1) ∙ sym (ap (λ (v : ℕ). digits_on most end v (at + 1) (c ∷ bs)) none)
      go true q (no d) = digits_same (c ∷ bs) zs 0 (b - 48) (at + 1) (omega arith) (omega (arith, goes_within most 0 b q)) (long (length (c ∷ bs)) (omega arith))
        where
          long : (n : ℕ) → 20 ≤ n → most < 10 ^ (0 + n)
          long n k =
              let more : 10 ^ 20 ≤ 10 ^ (0 + n) = pow-le-pow_right {n = 10} (omega arith) {i = 20} {j = 0 + n} (omega arith) in
              lt_of_lt_of_le g more

  number_same : (xs zs : List ℕ) (at : ℕ) → at + 21 ≤ length xs → most < 10 ^ 20 → number_at most end (xs ++ zs) at ≡ number_at most end xs at
  unfolding number_at
  number_same xs zs at h g = ap (starts_at most end at) (drop-append-le at xs zs (omega arith)) ∙ starts_same (drop at xs) zs at (rw (length-drop at xs) (omega arith)) g

-- ---- lines

module _ (most end : ℕ) (few : most < 2 ^ 64) (xs : List ℕ) (at : ℕ) where
  field_same : (zs : List ℕ) (f g : ℕ → ℕ → Line) → at + 21 ≤ length xs → ((v p : ℕ) → p ≤ at + 21 → f v p ≡ g v p) → (number_at most end (xs ++ zs) at then f) ≡ (number_at most end xs at then g)
  unfolding ◌then◌
  field_same zs f g h same = rw (number_same most end xs zs at h (omega arith)) (go (number_at most end xs at) refl)
    where
      go : (n : Option (ℕ × ℕ)) → number_at most end xs at ≡ n → (n then f) ≡ (n then g)
      go None q = refl
      go (Some (v, p)) q = same v p (number_near most end few xs at v p q)

-- six numbers
line_same : (xs zs : List ℕ) (at : ℕ) → at + 126 ≤ length xs → line_at (xs ++ zs) at ≡ line_at xs at
unfolding line_at
line_same xs zs at h =
    field_same (2 ^ 64 - 1) 32 (omega arith) xs at zs _ _ (omega arith) λ v₁ p₁ e₁.
    field_same (2 ^ 64 - 1) 32 (omega arith) xs p₁ zs _ _ (omega arith) λ v₂ p₂ e₂.
    field_same (2 ^ 64 - 1) 32 (omega arith) xs p₂ zs _ _ (omega arith) λ v₃ p₃ e₃.
    field_same (2 ^ 64 - 1) 32 (omega arith) xs p₃ zs _ _ (omega arith) λ v₄ p₄ e₄.
    field_same (2 ^ 64 - 1) 32 (omega arith) xs p₄ zs _ _ (omega arith) λ v₅ p₅ e₅.
    field_same (2 ^ 32 - 1) 10 (omega arith) xs p₅ zs _ _ (omega arith) λ v₆ p₆ e₆. refl

line_near : (xs : List ℕ) (at : ℕ) (t : Fields) (next : ℕ) → line_at xs at ≡ Some (t, next) → next ≤ at + 126
unfolding line_at
line_near xs at t next q =
    field (2 ^ 64 - 1) 32 (omega arith) xs at _ t next q λ _ p₁ _ _ n₁ q₁.
    field (2 ^ 64 - 1) 32 (omega arith) xs p₁ _ t next q₁ λ _ p₂ _ _ n₂ q₂.
    field (2 ^ 64 - 1) 32 (omega arith) xs p₂ _ t next q₂ λ _ p₃ _ _ n₃ q₃.
    field (2 ^ 64 - 1) 32 (omega arith) xs p₃ _ t next q₃ λ _ p₄ _ _ n₄ q₄.
    field (2 ^ 64 - 1) 32 (omega arith) xs p₄ _ t next q₄ λ _ p₅ _ _ n₅ q₅.
    field (2 ^ 32 - 1) 10 (omega arith) xs p₅ _ t next q₅ λ _ p₆ _ _ n₆ q₆.
    omega (arith, (some_pair_parts _ t p₆ next q₆).1)

lines_same : (m id at : ℕ) (b : Batch) (xs zs : List ℕ) → at + 126 * m < length xs → lines_from (xs ++ zs) m id at b ≡ lines_from xs m id at b
unfolding lines_from
lines_same zero id at b xs zs h = rw (lt-leb (length (xs ++ zs)) at (omega (arith, length-append xs zs)), lt-leb (length xs) at (omega arith)) refl
lines_same (suc m) id at b xs zs h =
    rw (lt-leb (length (xs ++ zs)) at (omega (arith, length-append xs zs)), lt-leb (length xs) at (omega arith), line_same xs zs at (omega arith))
    (go (line_at xs at) refl (λ f next. lines_same m (id + 1) next (added b f) xs zs))
  where
    go : (l : Line) → line_at xs at ≡ l
        → ((f : Fields) (next : ℕ) → next + 126 * m < length xs → lines_from (xs ++ zs) m (id + 1) next (added b f) ≡ lines_from xs m (id + 1) next (added b f))
        → if_whole l (λ f next. unless_refused (fields_refusal id f) (lines_from (xs ++ zs) m (id + 1) next (added b f)) (parsed_as (fields_refusal id f) b)) (parsed_as 18 b)
        ≡ if_whole l (λ f next. unless_refused (fields_refusal id f) (lines_from xs m (id + 1) next (added b f)) (parsed_as (fields_refusal id f) b)) (parsed_as 18 b)
    go None q more = unfold if_whole in refl
    go (Some (f, next)) q more = unfold if_whole in ap (λ (p : Parsed). unless_refused (fields_refusal id f) p (parsed_as (fields_refusal id f) b)) (more f next (omega (arith, line_near xs at f next q)))

-- ---- a text

begins_first : (ns xs zs : List ℕ) → length ns ≤ length xs → begins ns (xs ++ zs) ≡ begins ns xs
unfolding begins
begins_first [] xs zs h = refl
begins_first (n ∷ ns) [] zs h = absurd (omega arith)
begins_first (n ∷ ns) (x ∷ xs) zs h = ap (λ (b : Bool). eqb n x && b) (begins_first ns xs zs (omega arith))

text_same : (n : ℕ) (xs zs : List ℕ) → 129078 ≤ length xs → parsed n (xs ++ zs) ≡ parsed n xs
unfolding parsed
text_same n xs zs h = rw (begins_first names xs zs (omega (arith, names_long)), lines_same 1024 (n + 1) 53 empty xs zs (omega arith)) refl

-- a text is decided by its first 129,078 bytes
pub first_bytes : (n : ℕ) (xs : List ℕ) → parsed n xs ≡ parsed n (take 129078 xs)
first_bytes n xs = go (dec_le 129078 (length xs))
  where
    go : Dec (129078 ≤ length xs) → parsed n xs ≡ parsed n (take 129078 xs)
    go (yes q) = ap (parsed n) (sym (take-append-drop 129078 xs)) ∙ text_same n (take 129078 xs) (drop 129078 xs) (rw (length-take-le 129078 xs q) (omega arith))
    go (no q) = ap (parsed n) (sym (take_all 129078 xs (omega arith)))
