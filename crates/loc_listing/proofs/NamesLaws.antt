-- The line of names, as it is put and as it is looked for.
-- The library's `starts_with` is the definition `begins`.
use Prim.Native.Nat.{ℕ, ◌<◌, ◌≤◌}
use mathlib.Core.Path.{◌≡◌, refl, ap}
use mathlib.Core.Bool.{Bool, ◌&&◌}
use mathlib.Core.List.{List, [], ◌∷◌}
use native.Mathlib.Omega.{arith}
use lib.Dec.{eqb}
use lib.ListN.{length}
use borrow.Author.Tests.{le-leb, lt-leb}
use Rattle.std.specs.List.{starts_with}
use Rattle.loc_listing.specs.Text.{names, begins, names_text, Put}
use Rattle.loc_listing.proofs.TextLaws.{put_nothing}

-- ---- put

pub names_long : length names ≡ 53
unfolding names
names_long = refl

pub names_none : (out : List ℕ) → length out < 53 → Put out 0 (names_text (length out)) out 0 × (0 ≤ length out) × (0 ≤ 53)
unfolding names_text
names_none out h = (rw (lt-leb 53 (length out) h) (put_nothing out 0), omega arith, omega arith)

pub names_put : (out out₁ : List ℕ) (r : ℕ) → 53 ≤ length out → Put out 0 names out₁ r × (r ≡ 53) → Put out 0 (names_text (length out)) out₁ r × (r ≤ length out) × (r ≤ 53)
unfolding names_text
names_put out out₁ r h p = (rw (le-leb 53 (length out) h) p.0, omega (arith, p.1), omega (arith, p.1))

-- ---- looked for

pub begins_is : (xs ys : List ℕ) → starts_with eqb ys xs ≡ begins xs ys
unfolding begins
begins_is [] ys = refl
begins_is (x ∷ xs) [] = refl
begins_is (x ∷ xs) (y ∷ ys) = ap (λ (b : Bool). eqb x y && b) (begins_is xs ys)
