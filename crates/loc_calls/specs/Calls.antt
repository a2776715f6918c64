-- A call on the areas: its number, value, answer buffer, and the areas after the stores of its first s places
-- (document 01, "What each call gives"). Open, append, truncate and read are `call`; `create` and `audit` stand by themselves, as do `span_at` (SpanAt), `parts` (Parts) and `withheld` (Withheld).
use Rattle.std.specs.Prelude.{ℕ, zero, suc, Bool, true, false, cond, not, List, [], ◌∷◌, ltb, length}
use Rattle.loc_leaf.specs.declared.Kind.{Kind}
use Rattle.loc_leaf.specs.Answers.{refuse, ◌or_else◌, answer, Answer}
use Rattle.loc_calls.specs.Areas.{each, some, Areas, sizes, count}
use Rattle.loc_calls.specs.Table.{Call, opening, append, truncate, read, entries, table}
use Rattle.loc_calls.specs.Stores.{Place, slot_length, row_length, checkpoint_length, run, truncate_places, open_places, open_refusal, settled, staged, append_places, new_ends}
use Rattle.loc_calls.specs.Reading.{complete, any_missing, words_for, answered, found, end_read}
use Rattle.loc_calls.specs.Audit.{sound}

-- number and value, the whole answer buffer, all three areas
pub record Outcome : Type 0 where
  pub answer : Answer
  pub buffer : List ℕ
  pub areas : Areas

-- a refusal leaves everything as it was
unfoldable pub unless_refused : {A : Type 0} → ℕ → A → A → A
unless_refused zero new old = new
unless_refused (suc n) new old = old

-- ---- refusals

-- 1: an area under 16 bytes
unfoldable pub too_small : Areas → Bool
too_small a = some (each (λ xs. ltb (length xs) 16) a)

-- 1, then 6: with these every call but creation and opening begins
abbrev pub first_refusal : Kind → Areas → ℕ
first_refusal k a = refuse (too_small a) 1 or_else refuse (not (settled k a)) 6

-- 1, 6, and 17 for any slot of the index: with these a call begins that reads the whole index
unfoldable pub whole_refusal : Kind → Areas → ℕ
whole_refusal k a = first_refusal k a or_else refuse (not (complete k a 0 (count a))) 17

-- 17, of a reading
unfoldable pub unread : Kind → Areas → Call → Bool
unread k a opening = false
unread k a (append b) = false
unread k a (truncate w) = false
unread k a (read ids out) = any_missing k a ids

unfoldable pub is_opening : Call → Bool
is_opening opening = true
is_opening (append b) = false
is_opening (truncate w) = false
is_opening (read ids out) = false

-- the table of these areas
abbrev pub table_of : Kind → Areas → Call → ℕ
table_of k a c = table k (count a) (end_read k a) (new_ends k a) (sizes a) c

-- order: 1; then 2 to 5 as listed, or 6; then the table; reading: 15, 16, 17
unfoldable pub refusal : Kind → Call → Areas → ℕ
refusal k c a =
    refuse (too_small a) 1
    or_else cond (is_opening c) (open_refusal k a)
    (refuse (not (settled k a)) 6 or_else table_of k a c or_else refuse (unread k a c) 17)

-- ---- what an accepted call does

unfoldable pub places : Kind → Call → Areas → List Place
places k opening a = open_places k a
places k (append b) a = append_places a (staged k (count a) (entries k b))
places k (truncate w) a = truncate_places k w a
places k (read ids out) a = []

-- an opening has three places for the checkpoint rule, then three for the cut rule
abbrev pub place_count : Call → ℕ
place_count opening = 6
place_count (append b) = 4
place_count (truncate w) = 3
place_count (read ids out) = 0

-- the count after open, append and truncate, here n; for a reading how many are found
unfoldable pub value : Call → ℕ → ℕ
value opening n = n
value (append b) n = n
value (truncate w) n = n
value (read ids out) n = found n ids

-- the answer buffer as it was lent, and as f answers each wanted number
unfoldable pub lent : Call → List ℕ
lent opening = []
lent (append b) = []
lent (truncate w) = []
lent (read ids out) = out

unfoldable pub buffer : Call → (ℕ → List ℕ) → List ℕ
buffer opening f = []
buffer (append b) f = []
buffer (truncate w) f = []
buffer (read ids out) f = answered f ids out

unfoldable pub areas_after : Kind → ℕ → Call → Areas → Areas
areas_after k s c a = unless_refused (refusal k c a) (run s (places k c a) a) a

-- open, append and truncate store only by a run over the first s places
unfoldable pub call : Kind → ℕ → Call → Areas → Outcome
call k s c a = record {
  answer = answer (refusal k c a) (value c (count (areas_after k s c a)));
  buffer = unless_refused (refusal k c a) (buffer c (words_for k a)) (lent c);
  areas = areas_after k s c a;
}

-- ---- creation and audit

-- create stores length 16 three times
unfoldable pub create_places : List Place
create_places = slot_length 16 ∷ row_length 16 ∷ checkpoint_length 16 ∷ []

unfoldable pub create : Areas → Outcome
create a = record {
  answer = answer (refuse (too_small a) 1) 0;
  buffer = [];
  areas = unless_refused (refuse (too_small a) 1) (run 3 create_places a) a;
}

-- 1, then 6; for audit 1 or 0
unfoldable pub audit : Kind → Areas → Outcome
audit k a = record {
  answer = answer (first_refusal k a) (cond (sound k a) 1 0);
  buffer = [];
  areas = a;
}
