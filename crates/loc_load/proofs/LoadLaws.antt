-- Drawn records: which draws each is made of, and within which bounds its numbers lie.
-- So n of them have bodies, and spans, of at most 2,400 n bytes.
use Prim.Native.Nat.{ℕ, zero, suc, ◌+◌, ◌*◌, ◌%◌, ◌≤◌, ◌<◌}
use mathlib.Core.Path.{◌≡◌, refl, ap, ◌∙◌}
use native.Mathlib.Nat.{not-suc-le-zero}
use native.Mathlib.Omega.{arith}
use lib.ListN.{length, get_or}
use Rattle.loc_history.specs.Book.{Rec, len_sum, span_sum}
use Rattle.loc_load.specs.Xorshift.{xorshift, state}
use Rattle.loc_load.specs.Load.{drawn, load}

-- ---- the draws

-- steps from the next state are one more from this one
state_next : (x n : ℕ) → state (xorshift x) n ≡ state x (suc n)
unfolding state
state_next x zero = refl
state_next x (suc n) = ap xorshift (state_next x n)

state_two_on : (x i k : ℕ) → state (xorshift (xorshift x)) (2 * i + k) ≡ state x (2 * suc i + k)
state_two_on x i k = state_next (xorshift x) (2 * i + k) ∙ state_next x (suc (2 * i + k)) ∙ ap (state x) (omega arith)

-- record i, counted from 0, is made of the draws 2 i + 1 and 2 i + 2
pub drawn_at : (x n i : ℕ) (d : Rec) → i < n → get_or (load x n) i d ≡ drawn (state x (2 * i + 1)) (state x (2 * i + 2))
unfolding load
drawn_at x zero i d h = absurd (not-suc-le-zero h)
drawn_at x (suc n) zero d h = unfold state in refl
drawn_at x (suc n) (suc i) d h = drawn_at (xorshift (xorshift x)) n i d (omega arith) ∙ rw (state_two_on x i 1, state_two_on x i 2) refl

pub load_length : (x n : ℕ) → length (load x n) ≡ n
unfolding load
load_length x zero = refl
load_length x (suc n) = ap suc (load_length (xorshift (xorshift x)) n)

-- ---- the bounds

pub record Bounded (r : Rec) : Type 0 where
  pub whole : r.len % 8 ≡ 0
  pub some : 8 ≤ r.len
  pub short : r.len ≤ 2400
  pub spans : 1 ≤ r.spans
  pub few : r.spans ≤ 300

pub drawn_bounds : (a b : ℕ) → Bounded (drawn a b)
unfolding drawn
drawn_bounds a b = record { whole = omega arith; some = omega arith; short = omega arith; spans = omega arith; few = omega arith }

pub len_sum_lem : (x n : ℕ) → len_sum (load x n) ≤ 2400 * n
unfolding len_sum load
len_sum_lem x zero = omega arith
len_sum_lem x (suc n) = omega (arith, (drawn_bounds (xorshift x) (xorshift (xorshift x))).short, len_sum_lem (xorshift (xorshift x)) n)

pub span_sum_lem : (x n : ℕ) → 8 * span_sum (load x n) ≤ 2400 * n
unfolding span_sum load
span_sum_lem x zero = omega arith
span_sum_lem x (suc n) = omega (arith, (drawn_bounds (xorshift x) (xorshift (xorshift x))).few, span_sum_lem (xorshift (xorshift x)) n)
