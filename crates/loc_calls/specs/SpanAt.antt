-- Whose crossing is at an address (document 02, Item 2): the lowest record whose span range holds it.
-- A range begins where a reading of the record says, saturated; its end, the span length further on, is not saturated.
use Rattle.std.specs.Prelude.{ℕ, zero, suc, ◌+◌, ◌-◌, ◌*◌, ◌/◌, ◌%◌, ◌≤◌, ◌<◌, ◌≡◌, Bool, true, false, ◌&&◌, List, [], ◌∷◌, leb, ltb, get_or, Result, Ok, Err}
use Rattle.loc_leaf.specs.declared.Kind.TheVariants.{Paired}
use Rattle.loc_leaf.specs.declared.refusal.Refusal.{Refusal}
use Rattle.loc_leaf.specs.Answers.{answer, number_of}
use Rattle.loc_calls.specs.declared.SpanAt.{SpanAt}
use Rattle.loc_calls.specs.Areas.{Areas, count}
use Rattle.loc_calls.specs.Reading.{first_after, words_for}
use Rattle.loc_calls.specs.Calls.{Outcome, unless_refused, whole_refusal}

-- ---- by the words of a reading, which f gives for each record

-- of found, body start and length, span start and length, span count
abbrev pub span_start : (ℕ → List ℕ) → ℕ → ℕ
span_start f id = get_or (f id) 3 0

abbrev pub span_length : (ℕ → List ℕ) → ℕ → ℕ
span_length f id = get_or (f id) 4 0

abbrev pub span_count : (ℕ → List ℕ) → ℕ → ℕ
span_count f id = get_or (f id) 5 0

-- record id's span range holds address x
unfoldable pub holds : (ℕ → List ℕ) → ℕ → ℕ → Bool
holds f x id = leb (span_start f id) x && ltb x (span_start f id + span_length f id)

-- the number of the refusal, or 0; the record, the index of the span in it, and the remainder
pub record Crossing : Type 0 where
  pub number : ℕ
  pub «record» : ℕ
  pub index : ℕ
  pub remainder : ℕ

-- a refusal, all three 0
abbrev pub refused_by : ℕ → Crossing
refused_by n = record { number = n; «record» = 0; index = 0; remainder = 0 }

-- the index of the span in record id and the remainder 0 to 7, so that address = span start + 8 × index + remainder; 21 where there is no record
unfoldable pub crossing : (ℕ → List ℕ) → ℕ → ℕ → Crossing
crossing f x zero = refused_by 21
crossing f x (suc i) = record { number = 0; «record» = suc i; index = (x - span_start f (suc i)) / 8; remainder = (x - span_start f (suc i)) % 8 }

-- in the lowest of n records whose range holds the address
unfoldable pub span_among : (ℕ → List ℕ) → ℕ → ℕ → Crossing
span_among f n x = crossing f x (first_after (holds f x) 0 n)

-- ---- the call

-- 1, 6; 17 for any slot; then 21
unfoldable pub span_at : Areas → ℕ → Crossing
span_at a x = unless_refused (whole_refusal Paired a) (span_among (words_for Paired a) (count a) x) (refused_by (whole_refusal Paired a))

-- as the outcome of a call that is lent three words: it stores nothing in the areas
unfoldable pub span_at_outcome : ℕ → Areas → Outcome
span_at_outcome x a = record {
  answer = answer (span_at a x).number 0;
  buffer = (span_at a x).«record» ∷ (span_at a x).index ∷ (span_at a x).remainder ∷ [];
  areas = a;
}

-- ---- what an accepted call says

-- of n records whose words f gives
pub record Located (f : ℕ → List ℕ) (n x : ℕ) (r : Crossing) : Type 0 where
  pub address : x ≡ span_start f r.«record» + 8 * r.index + r.remainder
  pub remainder : r.remainder ≤ 7
  pub index : r.index < span_count f r.«record»
  pub counted : (0 < r.«record») × (r.«record» ≤ n)
  pub held : holds f x r.«record» ≡ true
  pub lowest : (id : ℕ) → 0 < id → id < r.«record» → holds f x id ≡ false

-- in any areas
unfoldable pub SpanAtLocates : Type 0
SpanAtLocates = (a : Areas) (x : ℕ) → (span_at a x).number ≡ 0 → Located (words_for Paired a) (count a) x (span_at a x)

-- ---- what code returns

abbrev pub crossing_of : Result SpanAt Refusal → Crossing
crossing_of (Ok s) = record { number = 0; «record» = s.«record»; index = s.index; remainder = s.remainder }
crossing_of (Err r) = refused_by (number_of r)
