-- Words of answers at their places, taken together: what a store keeps, and when a list of words is the answer.
-- Laws over places take the width as a number, so they serve both kinds.
use Prim.Native.Nat.{ℕ, zero, suc, ◌+◌, ◌*◌, ◌<◌, ◌≤◌}
use mathlib.Core.Path.{◌≡◌, refl, sym, ap, ◌∙◌, subst⁻¹}
use mathlib.Core.Bool.{Bool, true, false, cond}
use mathlib.Core.Logic.{◌⊎◌, ⊎_elim, inl, inr}
use mathlib.Core.List.{List, [], ◌∷◌, ◌++◌, map, flatten}
use native.Mathlib.Nat.{mul-suc, mul-le-mul_left}
use native.Mathlib.Omega.{arith}
use lib.ListN.{length, get_or, take, drop, replicate, length-append, length-drop, length-replicate}
use lib.Seq.{ext_get_or, get_or-take, get_or-drop, length-take-le, take-add}
use Rattle.loc_leaf.specs.declared.Kind.{Kind}
use Rattle.loc_leaf.specs.declared.Kind.TheVariants.{Paired, Single}
use Rattle.loc_leaf.specs.declared.Value.{Value}
use Rattle.loc_calls.specs.Areas.{Areas, count}
use Rattle.loc_calls.specs.Table.{word_width}
use Rattle.loc_calls.specs.Reading.{words, words_for, answered, within}
use Rattle.loc_answer.specs.Words.{Has, Put}

-- ---- places

-- the words of a lower place lie below those of a higher one
pub place_below : (w p p' : ℕ) → p < p' → w * p + w ≤ w * p'
place_below w p p' h = omega (arith, mul-suc w p, mul-le-mul_left w h)

compare : (a b : ℕ) → (a < b) ⊎ ((a ≡ b) ⊎ (b < a))
compare zero zero = inr (inl refl)
compare zero (suc b) = inl (omega arith)
compare (suc a) zero = inr (inr (omega arith))
compare (suc a) (suc b) = ⊎_elim (λ l. inl (omega arith)) (⊎_elim (λ e. inr (inl (ap suc e))) (λ l. inr (inr (omega arith)))) (compare a b)

-- a store of right words keeps what is right, at its own place and at every other
pub put_keeps : (w : ℕ) (old new ws : List ℕ) (p : ℕ) → Put w old p ws new → (W : ℕ → List ℕ) → W p ≡ ws → (p' : ℕ) → Has w old p' (W p') → Has w new p' (W p')
unfolding Has
put_keeps w old new ws p s W e p' h =
    ⊎_elim
    (λ l q g. s.below (w * p' + q) (omega (arith, place_below w p' p l)) ∙ h q g)
    (⊎_elim
    (λ z. subst⁻¹ (λ (x : ℕ). Has w new x (W x)) z (subst⁻¹ (Has w new p) e s.there))
    (λ l q g. s.above (w * p' + q) (omega (arith, place_below w p p' l)) ∙ h q g))
    (compare p' p)

-- ---- all places together

pub flat_length : (w : ℕ) (f : ℕ → List ℕ) → ((id : ℕ) → length (f id) ≡ w) → (ids : List ℕ) → length (flatten (map f ids)) ≡ w * length ids
unfolding flatten
flat_length w f l [] = omega arith
flat_length w f l (id ∷ ids) =
    length-append (f id) (flatten (map f ids)) ∙ omega (arith, l id, flat_length w f l ids, mul-suc w (length ids))

-- the words of place 0
first_words : (w : ℕ) (ws stage : List ℕ) → length ws ≡ w → w ≤ length stage → Has w stage 0 ws → take w stage ≡ ws
unfolding Has
first_words w ws stage l h g =
    let t : length (take w stage) ≡ w = length-take-le w stage h in
    ext_get_or 0 (take w stage) ws (t ∙ sym l)
    (λ q b.
    let z : q ≡ w * 0 + q = omega arith in
    get_or-take w stage q 0 (omega arith) ∙ ap (λ (n : ℕ). get_or stage n 0) z ∙ g q (omega arith))

-- without them, every other place is one lower
later_words : (w : ℕ) (ws stage : List ℕ) (p : ℕ) → Has w stage (suc p) ws → Has w (drop w stage) p ws
unfolding Has
later_words w ws stage p g q h =
    let z : w + (w * p + q) ≡ w * suc p + q = omega (arith, mul-suc w p) in
    get_or-drop w stage (w * p + q) 0 ∙ ap (λ (n : ℕ). get_or stage n 0) z ∙ g q h

pub has_flat : (w : ℕ) (f : ℕ → List ℕ) → ((id : ℕ) → length (f id) ≡ w) → (ids stage : List ℕ) → w * length ids ≤ length stage → ((p : ℕ) → p < length ids → Has w stage p (f (get_or ids p 0))) → take (w * length ids) stage ≡ flatten (map f ids)
unfolding flatten
has_flat w f l [] stage h g =
    let z : w * 0 ≡ 0 = omega arith in
    ap (λ (n : ℕ). take n stage) z
has_flat w f l (id ∷ ids) stage h g =
    let z : w * suc (length ids) ≡ w + w * length ids = omega (arith, mul-suc w (length ids)) in
    let r : w * length ids ≤ length (drop w stage) = omega (arith, length-drop w stage) in
    ap (λ (n : ℕ). take n stage) z ∙ take-add w (w * length ids) stage
    ∙ (λ t. first_words w (f id) stage (l id) (omega arith) (g 0 (omega arith)) t
    ++ has_flat w f l ids (drop w stage) r (λ p b. later_words w (f (get_or ids p 0)) stage p (g (suc p) (omega arith))) t)

-- ---- the words of one number

pub words_length : (k : Kind) (body span : ℕ) (v : Value) → length (words k body span v) ≡ word_width k
unfolding words
words_length Paired body span v = refl
words_length Single body span v = refl

cond_length : (b : Bool) (u v : List ℕ) (n : ℕ) → length u ≡ n → length v ≡ n → length (cond b u v) ≡ n
cond_length true u v n p q = p
cond_length false u v n p q = q

pub words_for_length : (k : Kind) (a : Areas) (id : ℕ) → length (words_for k a id) ≡ word_width k
unfolding words_for
words_for_length k a id =
    cond_length (within (count a) id) (words k _ _ _) (replicate (word_width k) 0) (word_width k)
    (words_length k _ _ _)
    (length-replicate (word_width k) 0)

zero_at : (n i : ℕ) → ◌≡◌ {A = ℕ} (get_or (replicate n 0) i 0) 0
zero_at zero i = refl
zero_at (suc n) zero = refl
zero_at (suc n) (suc i) = zero_at n i

-- a number that is no record's: zeros everywhere are right
pub zeros_has : (k : Kind) (a : Areas) (n : ℕ) (id p : ℕ) → within (count a) id ≡ false → Has (word_width k) (replicate n 0) p (words_for k a id)
unfolding Has words_for
zeros_has k a n id p e q h = rw e (zero_at n (word_width k * p + q) ∙ sym (zero_at (word_width k) q))

-- ---- the answer

pub answered_is : (k : Kind) (a : Areas) (ids stage out new : List ℕ) → word_width k * length ids ≤ length stage → ((p : ℕ) → p < length ids → Has (word_width k) stage p (words_for k a (get_or ids p 0))) → new ≡ take (word_width k * length ids) stage ++ drop (word_width k * length ids) out → new ≡ answered (words_for k a) ids out
unfolding answered
answered_is k a ids stage out new h g e =
    e
    ∙ (λ t. has_flat (word_width k) (words_for k a) (words_for_length k a) ids stage h g t
    ++ drop (sym (flat_length (word_width k) (words_for k a) (words_for_length k a) ids) t) out)
