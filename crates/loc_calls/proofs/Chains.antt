-- Lists of records that start where the one before ends, from 16 on, and end below 2^64: good lists.
-- A reading gives back the starts of a good list.
use Prim.Native.Nat.{ℕ, zero, suc, ◌+◌, ◌*◌, ◌^◌, ◌≤◌, ◌<◌}
use mathlib.Core.Path.{◌≡◌, ap, ◌∙◌, subst}
use mathlib.Core.List.{List, [], ◌∷◌, ◌++◌}
use native.Mathlib.Omega.{arith}
use lib.ListN.{take, drop, take-append-drop}
use Rattle.loc_calls.specs.Table.{Entry}

-- ---- sums of a list

unfoldable pub lens : List Entry → ℕ
lens [] = 0
lens (e ∷ es) = e.len + lens es

unfoldable pub spans : List Entry → ℕ
spans [] = 0
spans (e ∷ es) = e.spans + spans es

pub lens_append : (P Q : List Entry) → lens (P ++ Q) ≡ lens P + lens Q
unfolding lens
lens_append [] Q = omega arith
lens_append (e ∷ P) Q = omega (arith, lens_append P Q)

pub spans_append : (P Q : List Entry) → spans (P ++ Q) ≡ spans P + spans Q
unfolding spans
spans_append [] Q = omega arith
spans_append (e ∷ P) Q = omega (arith, spans_append P Q)

pub lens_take : (n : ℕ) (E : List Entry) → lens (take n E) ≤ lens E
lens_take n E = omega (arith, lens_append (take n E) (drop n E), ap lens (take-append-drop n E))

pub spans_take : (n : ℕ) (E : List Entry) → spans (take n E) ≤ spans E
spans_take n E = omega (arith, spans_append (take n E) (drop n E), ap spans (take-append-drop n E))

-- ---- good lists

-- each record starts where the one before ends, in both streams
unfoldable pub Chained : ℕ → ℕ → List Entry → Type 0
Chained b s [] = Unit
Chained b s (e ∷ es) = (e.start ≡ b) × (e.span_start ≡ s) × Chained (b + e.len) (s + 8 * e.spans) es

pub record Good (E : List Entry) : Type 0 where
  pub chained : Chained 16 16 E
  pub body : 16 + lens E < 2 ^ 64
  pub span : 16 + 8 * spans E < 2 ^ 64

pub good_nil : Good []
unfolding Chained lens spans
good_nil = record { chained = tt; body = omega arith; span = omega arith }

chained_take : (b s n : ℕ) (E : List Entry) → Chained b s E → Chained b s (take n E)
unfolding Chained
chained_take b s zero E h = tt
chained_take b s (suc n) [] h = tt
chained_take b s (suc n) (e ∷ E) h = (h.0, h.1, chained_take (b + e.len) (s + 8 * e.spans) n E h.2)

pub good_take : (n : ℕ) (E : List Entry) → Good E → Good (take n E)
good_take n E g = record {
  chained = chained_take 16 16 n E g.chained;
  body = omega (arith, lens_take n E, g.body);
  span = omega (arith, spans_take n E, g.span);
}

pub chained_append : (b s : ℕ) (E es : List Entry) (B S : ℕ) → B ≡ b + lens E → S ≡ s + 8 * spans E → Chained b s E → Chained B S es → Chained b s (E ++ es)
unfolding Chained lens spans
chained_append b s [] es B S p q h g = subst (λ (x : ℕ). Chained x s es) (p ∙ omega arith) (subst (λ (x : ℕ). Chained B x es) (q ∙ omega arith) g)
chained_append b s (e ∷ E) es B S p q h g = (h.0, h.1, chained_append (b + e.len) (s + 8 * e.spans) E es B S (omega arith) (omega arith) h.2 g)

-- where a record of a chained list starts
pub chained_at : (b s : ℕ) (P : List Entry) (e : Entry) (S : List Entry) → Chained b s (P ++ (e ∷ S)) → (e.start ≡ b + lens P) × (e.span_start ≡ s + 8 * spans P)
unfolding Chained lens spans
chained_at b s [] e S h = (h.0 ∙ omega arith, h.1 ∙ omega arith)
chained_at b s (p ∷ P) e S h =
    let t : (e.start ≡ b + p.len + lens P) × (e.span_start ≡ s + 8 * p.spans + 8 * spans P) = chained_at (b + p.len) (s + 8 * p.spans) P e S h.2 in
    (t.0 ∙ omega arith, t.1 ∙ omega arith)
