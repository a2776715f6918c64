-- An empty index and the batch of a good list of valid records: with room for it, it is taken whole, and the index then holds and lists that list.
-- The text of at most 1,024 such records says just that batch.
use Prim.Native.Nat.{ℕ, ◌≤◌}
use mathlib.Core.Path.{◌≡◌, refl, sym, ap, ◌∙◌, subst}
use mathlib.Core.List.{List, [], ◌++◌, map}
use native.Mathlib.Omega.{arith}
use lib.ListN.{length}
use Rattle.loc_leaf.specs.declared.Kind.TheVariants.{Paired}
use Rattle.loc_leaf.specs.Answers.{answer}
use Rattle.loc_calls.specs.Areas.{Three, Areas, sizes}
use Rattle.loc_calls.specs.Table.{Entry, append, batch_of}
use Rattle.loc_calls.specs.Calls.{Outcome, unless_refused, is_opening, value, call, create}
use Rattle.loc_calls.proofs.Gathered.{AllValid}
use Rattle.loc_calls.proofs.Chains.{Good}
use Rattle.loc_history.specs.Book.{Rec, rec_of, records, book_refusal, book_next, book_reply}
use Rattle.loc_history.specs.History.{book_after, LawfulCall, AllSized, placed}
use Rattle.loc_history.proofs.Steady.{Steady}
use Rattle.loc_history.proofs.Calls.{After, finished_call}
use Rattle.loc_history.proofs.History.{created_sizes, placed_is}
use Rattle.loc_listing.specs.Text.{names}
use Rattle.loc_listing.specs.Listing.{listing, entry_lines}
use Rattle.loc_parse.specs.Lines.{Parsed, parsed_as, parsed}
use Rattle.loc_parse.specs.Import.{append_listing}
use Rattle.loc_parse.proofs.LinesBack.{text_back}
use Rattle.loc_round_trip.specs.RoundTrip.{Enough}
use Rattle.loc_round_trip.proofs.Printed.{listing_is}
use Rattle.loc_round_trip.proofs.Accepted.{all_fit, entries_own, book_accepts, batch_lawful}
use Rattle.loc_round_trip.proofs.Listings.{is_append}

-- the list as a text, and the append of its batch
abbrev pub text_of : List Entry → List ℕ
text_of E = names ++ entry_lines 0 E

abbrev pub taken : List Entry → Areas → Outcome
taken E b = call Paired 4 (append (batch_of E)) b

-- ---- the text of few records

module _ (E : List Entry) (v : AllValid Paired E) (g : Good E) (few : length E ≤ 1024) where
  pub text_says : parsed 0 (text_of E) ≡ parsed_as 0 (batch_of E)
  text_says = text_back E 0 few (omega arith) (all_fit 16 16 E g.chained v g.body g.span)

  -- it is the append of the batch
  pub text_appends : (b : Areas) → Steady Paired b [] → (s : ℕ) → append_listing s (text_of E) b ≡ call Paired s (append (batch_of E)) b
  text_appends b o s = is_append b [] o (text_of E) (ap (λ (p : Parsed). p.number) text_says) s ∙ ap (λ (p : Parsed). call Paired s (append p.batch) b) text_says

-- ---- the append, with room for the list

-- it is lawful, and accepted whole; the areas hold the list and list its text
pub record Takes (L : List Rec) (E : List Entry) (b : Areas) : Type 0 where
  pub lawful : LawfulCall Paired (sizes b) [] (append (batch_of E))
  pub answers : (taken E b).answer ≡ answer 0 (length L)
  pub steady : Steady Paired (taken E b).areas L
  pub lists : listing (taken E b).areas ≡ text_of E

module _ (L : List Rec) (E : List Entry) (is : L ≡ map rec_of E) (v : AllValid Paired E) (g : Good E) (b : Areas) (o : Steady Paired b []) (room : Enough L b) where
  room_there : Enough (map rec_of E) b
  room_there = subst (λ (l : List Rec). Enough l b) is room

  accepts : book_refusal Paired (sizes b) [] (append (batch_of E)) ≡ 0
  accepts = book_accepts E v g b room_there

  after : After Paired b [] (append (batch_of E))
  after = finished_call Paired b [] o (append (batch_of E)) (unfold is_opening in refl) (batch_lawful E v g b room_there)

  next_is : book_next Paired [] (append (batch_of E)) ≡ L
  unfolding book_next records
  next_is = ap (map rec_of) (entries_own E) ∙ sym is

  held : Steady Paired (taken E b).areas L
  unfolding book_after unless_refused
  held = subst (Steady Paired (taken E b).areas) next_is (rw accepts at after.steady)

  count_answered : (taken E b).answer ≡ answer 0 (length L)
  unfolding book_reply value
  count_answered = after.answer ∙ rw (accepts, next_is) refl

  -- a list is known by its records
  same_list : held.E ≡ E
  same_list =
      placed_is 16 16 held.E held.good.chained
      ∙ ap (placed 16 16) (sym held.is ∙ is)
      ∙ sym (placed_is 16 16 E g.chained)

  pub list_taken : Takes L E b
  list_taken = record {
    lawful = batch_lawful E v g b room_there;
    answers = count_answered;
    steady = held;
    lists = listing_is (taken E b).areas held.E held.full held.good ∙ ap text_of same_list;
  }

-- ---- a fresh index has the room that the areas have

module _ (b : Areas) (z : AllSized b) (L : List Rec) (room : Enough L b) where
  pub room_kept : Enough L (create b).areas
  unfolding sizes
  room_kept = record {
    slots = rw (ap (λ (x : Three ℕ). x.slots) (created_sizes b z)) room.slots;
    rows = rw (ap (λ (x : Three ℕ). x.rows) (created_sizes b z)) room.rows;
    checkpoints = rw (ap (λ (x : Three ℕ). x.checkpoints) (created_sizes b z)) room.checkpoints;
  }
