-- A listing appended: accepted it is an append, refused it changes nothing; and what holds of every call holds of it.
-- On any areas, for any text and every number of places.
use Prim.Native.Nat.{ℕ, zero, suc, ◌+◌, ◌*◌, ◌≤◌}
use mathlib.Core.Path.{◌≡◌, refl, sym, ap, ◌∙◌}
use mathlib.Core.Bool.{Bool, true, false, cond, not}
use mathlib.Core.List.{List, []}
use native.Mathlib.Omega.{arith}
use lib.Dec.{leb, eqb}
use lib.ListN.{length, take}
use Rattle.std.specs.Prelude.{Some, None}
use Rattle.loc_leaf.specs.declared.Kind.TheVariants.{Paired}
use Rattle.loc_leaf.specs.Answers.{answer, Answer}
use Rattle.loc_calls.specs.Areas.{each, Areas, count}
use Rattle.loc_calls.specs.Table.{Batch, append}
use Rattle.loc_calls.specs.Calls.{unless_refused, lent, call}
use Rattle.loc_calls.specs.Promises.{Stored}
use Rattle.loc_calls.specs.Guarantees.{index_call, outcome, lent_to, largest, InTable, NumbersOfTable, Refusal, LeavesAll, RefusalsLeaveAll, SameOutcome, Unread, FirstBytesUnread, Unwritten, FirstBytesUnwritten, Guaranteed}
use Rattle.loc_calls.proofs.Refused.{test, first, first_in_lem, numbers_of_table, refusals_leave_all}
use Rattle.loc_calls.proofs.FirstBytes.{all_same, first_same, count_same, first_bytes_unread, first_bytes_unwritten}
use Rattle.loc_parse.specs.declared.Fields.{Fields}
use Rattle.loc_parse.specs.Lines.{Line, line_at, fields_refusal, Parsed, parsed_as, added, if_whole, lines_from, empty, parsed}
use Rattle.loc_parse.specs.Import.{listing_refusal, append_listing}
use Rattle.loc_parse.proofs.PrefixLaws.{first_bytes}
use Rattle.loc_listing.specs.Text.{names, begins}

module _ (s : ℕ) (xs : List ℕ) (a : Areas) where
  pub listing_refused : (n : ℕ) → listing_refusal xs a ≡ n → (n ≡ 0 → ⊥) → Stored (append_listing s xs a) (record { number = n; value = 0 }) a
  unfolding append_listing unless_refused answer
  listing_refused zero e h = absurd (h refl)
  listing_refused (suc n) e h = (rw e refl, rw e refl)

  pub listing_appended : listing_refusal xs a ≡ 0 → append_listing s xs a ≡ call Paired s (append (parsed (count a) xs).batch) a
  unfolding append_listing unless_refused
  listing_appended e = rw e refl

-- ---- its first bytes decide

pub listing_first_bytes : (s : ℕ) (xs : List ℕ) (a : Areas) → append_listing s xs a ≡ append_listing s (take 129078 xs) a
unfolding append_listing listing_refusal
listing_first_bytes s xs a = rw (first_bytes (count a) xs) refl

-- ---- its numbers

fields_in : (id : ℕ) (f : Fields) → fields_refusal id f ≤ largest
unfolding fields_refusal
fields_in id f = first (test 19 (not (eqb f.number id)) refl) (test 20 (not (eqb f.span_len (8 * f.spans))) refl)

lines_in : (xs : List ℕ) (m id at : ℕ) (b : Batch) → (lines_from xs m id at b).number ≤ largest
unfolding lines_from
lines_in xs zero id at b = go (leb (length xs) at)
  where
    go : (t : Bool) → (cond t (parsed_as 0 b) (parsed_as 18 b)).number ≤ largest
    go true = omega arith
    go false = omega arith
lines_in xs (suc m) id at b = go (leb (length xs) at) (line_at xs at) (λ f next. lines_in xs m (id + 1) next (added b f))
  where
    turn : (n : ℕ) → n ≤ largest → (p : Parsed) → p.number ≤ largest → (unless_refused n p (parsed_as n b)).number ≤ largest
    turn zero h p g = unfold unless_refused in g
    turn (suc n) h p g = unfold unless_refused in h

    go : (t : Bool) (l : Line) → ((f : Fields) (next : ℕ) → (lines_from xs m (id + 1) next (added b f)).number ≤ largest)
        → (cond t (parsed_as 0 b) (if_whole l (λ f next. unless_refused (fields_refusal id f) (lines_from xs m (id + 1) next (added b f)) (parsed_as (fields_refusal id f) b)) (parsed_as 18 b))).number ≤ largest
    go true l more = omega arith
    go false None more = unfold if_whole in omega arith
    go false (Some (f, next)) more = unfold if_whole in turn (fields_refusal id f) (fields_in id f) (lines_from xs m (id + 1) next (added b f)) (more f next)

parsed_in : (n : ℕ) (xs : List ℕ) → (parsed n xs).number ≤ largest
unfolding parsed
parsed_in n xs = go (begins names xs)
  where
    go : (t : Bool) → (cond t (lines_from xs 1024 (n + 1) 53 empty) (parsed_as 18 empty)).number ≤ largest
    go true = lines_in xs 1024 (n + 1) 53 empty
    go false = omega arith

-- ---- what holds of every call

module _ (s : ℕ) (xs : List ℕ) where
  number_in : InTable (append_listing s xs)
  unfolding InTable NumbersOfTable
  number_in a = go (listing_refusal xs a) refl
    where
      go : (n : ℕ) → listing_refusal xs a ≡ n → (append_listing s xs a).answer.number ≤ largest
      go zero e = rw (listing_appended s xs a e) (unfold outcome in numbers_of_table (index_call Paired s (append (parsed (count a) xs).batch)) a)
      go (suc n) e = rw (← (listing_refused s xs a (suc n) e (λ z. omega arith)).0) (rw (← e) (unfold listing_refusal in first (first_in_lem Paired a) (parsed_in (count a) xs)))

  leaves_all : LeavesAll (append_listing s xs) []
  unfolding LeavesAll RefusalsLeaveAll
  leaves_all a h = go (listing_refusal xs a) refl
    where
      go : (n : ℕ) → listing_refusal xs a ≡ n → Refusal (append_listing s xs a) a []
      go zero e =
          rw (listing_appended s xs a e)
          (unfold outcome lent_to lent in refusals_leave_all (index_call Paired s (append (parsed (count a) xs).batch)) a (rw (listing_appended s xs a e) at h))
      go (suc n) e = record {
        value = ap (λ (r : Answer). r.value) (sym (listing_refused s xs a (suc n) e (λ z. omega arith)).0);
        buffer = unfold append_listing unless_refused in rw e refl;
        areas = sym (listing_refused s xs a (suc n) e (λ z. omega arith)).1;
      }

  unread : Unread (append_listing s xs)
  unfolding Unread FirstBytesUnread
  unread a b h = go (listing_refusal xs a) refl
    where
      same : listing_refusal xs a ≡ listing_refusal xs b
      same = unfold listing_refusal in rw (first_same Paired (all_same h), count_same Paired (all_same h)) refl

      go : (n : ℕ) → listing_refusal xs a ≡ n → SameOutcome (append_listing s xs a) (append_listing s xs b)
      go zero e =
          rw (listing_appended s xs a e, listing_appended s xs b (sym same ∙ e), count_same Paired (all_same h))
          (unfold outcome in first_bytes_unread (index_call Paired s (append (parsed (count b) xs).batch)) a b h)
      go (suc n) e = unfold append_listing unless_refused in rw (e, ← same, e) (record { answer = refl; buffer = refl; areas = h })

  unwritten : Unwritten (append_listing s xs)
  unfolding Unwritten FirstBytesUnwritten
  unwritten a = go (listing_refusal xs a) refl
    where
      go : (n : ℕ) → listing_refusal xs a ≡ n → each (take 8) (append_listing s xs a).areas ≡ each (take 8) a
      go zero e = rw (listing_appended s xs a e) (unfold outcome in first_bytes_unwritten (index_call Paired s (append (parsed (count a) xs).batch)) a)
      go (suc n) e = unfold append_listing unless_refused in rw e refl

  pub listing_guaranteed : Guaranteed (append_listing s xs) []
  listing_guaranteed = record { number = number_in; refusal = leaves_all; unread = unread; unwritten = unwritten }
