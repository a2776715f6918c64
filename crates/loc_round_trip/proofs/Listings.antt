-- Demand 3 with listings, proved: a listing is an append that demand 3 covers, or it changes nothing.
-- On areas that hold the book's list a text is taken by the same count on both sides, and neither 1 nor 6 comes.
use Prim.Native.Nat.{ℕ, zero, suc}
use mathlib.Core.Path.{◌≡◌, refl, sym, ap, ◌∙◌, subst}
use mathlib.Core.Bool.{Bool, false}
use mathlib.Core.List.{List, [], ◌∷◌}
use native.Mathlib.Nat.{suc-ne-zero}
use lib.ListN.{length}
use Rattle.loc_leaf.specs.declared.Kind.TheVariants.{Paired}
use Rattle.loc_leaf.specs.Bytes.{Bytes}
use Rattle.loc_leaf.specs.Answers.{answer}
use Rattle.loc_calls.specs.Areas.{Three, Areas, sizes}
use Rattle.loc_calls.specs.Table.{Batch}
use Rattle.loc_calls.specs.Stores.{write, step}
use Rattle.loc_calls.specs.Calls.{Outcome, unless_refused, is_opening, call, create}
use Rattle.loc_calls.specs.Promises.{Stored}
use Rattle.loc_calls.proofs.Settled.{not_1_nor_6}
use Rattle.loc_history.specs.Book.{Rec}
use Rattle.loc_history.specs.History.{finished, torn, index_after, index_gives, Narrow, LawfulCall, Awaited, BeforeEnd, LawfulEvent, is_tear, AllSized}
use Rattle.loc_history.proofs.Steady.{Steady, steady_pending, count_book}
use Rattle.loc_history.proofs.Calls.{sizes_bytes, torn_bytes_lem}
use Rattle.loc_history.proofs.History.{Ready, ready_steady, Done, done, created_sizes, created_ready, steady_stores}
use Rattle.loc_parse.specs.Lines.{parsed_as, parsed}
use Rattle.loc_parse.specs.Import.{listing_refusal, append_listing}
use Rattle.loc_parse.proofs.OnlyPrinted.{Printed, only_printed}
use Rattle.loc_parse.proofs.ImportLaws.{listing_refused, listing_appended}
use Rattle.loc_round_trip.specs.Listings.{AnyEvent, event, listing, torn_listing, torn_listing_bytes, index_after_any, index_gives_any, any_index_replies, any_index_at_end, said, as_append, book_after_any, book_gives_any, any_book_replies, any_book_at_end, LawfulListing, LawfulAny, is_any_tear, any_awaits, AllLawful, Demand3Listings, Demand3ListingsList}
use Rattle.loc_round_trip.proofs.Accepted.{narrow_own}

-- the span counts that an accepted text says have 32 bits
narrow_said : (n : ℕ) (xs : List ℕ) → (parsed n xs).number ≡ 0 → Narrow Paired (parsed n xs).batch.span_counts
narrow_said n xs e =
    let o : Printed n xs (parsed n xs).batch = only_printed n xs (parsed n xs).batch (ap (λ (m : ℕ). parsed_as m (parsed n xs).batch) e) in
    subst (λ (b : Batch). Narrow Paired b.span_counts) (sym o.batch) (narrow_own o.E o.fit)

-- ---- a text on areas that hold the book's list

module _ (a : Areas) (L : List Rec) (t : Steady Paired a L) (xs : List ℕ) where
  -- index and book refuse it alike
  number_said : listing_refusal xs a ≡ (said L xs).number
  unfolding listing_refusal
  number_said = rw (not_1_nor_6 Paired a t.E t.full, count_book Paired a L t) refl

  -- accepted, it is the append
  pub is_append : (said L xs).number ≡ 0 → (s : ℕ) → append_listing s xs a ≡ call Paired s (as_append L xs) a
  is_append e s = rw (count_book Paired a L t) at (listing_appended s xs a (number_said ∙ e))

  -- refused, it changes nothing
  module _ (n : ℕ) (e : (said L xs).number ≡ suc n) where
    left : (s : ℕ) → Stored (append_listing s xs a) (record { number = suc n; value = 0 }) a
    left s = listing_refused s xs a (suc n) (number_said ∙ e) (suc-ne-zero n)

    no_buffer : (s : ℕ) → (append_listing s xs a).buffer ≡ []
    unfolding append_listing unless_refused
    no_buffer s = rw (number_said ∙ e) refl

-- ---- one event

record AnyDone (a : Areas) (L : List Rec) (e : AnyEvent) : Type 0 where
  gives : index_gives_any a e ≡ book_gives_any (sizes a) L e
  ready : Ready (is_any_tear e) Paired (index_after_any a e) (book_after_any (sizes a) L e)
  same : sizes (index_after_any a e) ≡ sizes a

module _ (w : Bool) (a : Areas) (L : List Rec) (r : Ready w Paired a L) (xs : List ℕ) (h : Awaited w (as_append L xs)) (l : LawfulListing (sizes a) L xs) where
  held : Steady Paired a L
  unfolding is_opening
  held = ready_steady w Paired a L (as_append L xs) r h refl

  module _ (e : (said L xs).number ≡ 0) where
    lawful_append : LawfulCall Paired (sizes a) L (as_append L xs)
    unfolding LawfulCall LawfulListing
    lawful_append = (narrow_said (length L) xs e, λ q. l (rw (e, q) refl))

    areas_are : (s : ℕ) → (append_listing s xs a).areas ≡ (call Paired s (as_append L xs) a).areas
    areas_are s = ap (λ (o : Outcome). o.areas) (is_append a L held xs e s)

    appended : AnyDone a L (listing xs)
    unfolding index_gives_any book_gives_any index_after_any book_after_any is_any_tear index_gives index_after is_tear unless_refused
    appended =
        let d : Done w Paired a L (finished (as_append L xs)) = done w Paired a L (finished (as_append L xs)) r (unfold LawfulEvent in (h, lawful_append)) in
        record { gives = rw (is_append a L held xs e 4, e) d.gives; ready = rw (areas_are 4, e) d.ready; same = rw (areas_are 4) d.same }

    appended_torn : (s : ℕ) → BeforeEnd s (as_append L xs) → AnyDone a L (torn_listing s xs)
    unfolding index_gives_any book_gives_any index_after_any book_after_any is_any_tear index_after is_tear unless_refused
    appended_torn s g =
        let d : Done w Paired a L (torn s (as_append L xs)) = done w Paired a L (torn s (as_append L xs)) r (unfold LawfulEvent in (h, lawful_append, g)) in
        record { gives = refl; ready = rw (areas_are s, e) d.ready; same = rw (areas_are s) d.same }

  module _ (n : ℕ) (e : (said L xs).number ≡ suc n) where
    kept : (s : ℕ) → (append_listing s xs a).areas ≡ a
    kept s = sym (left a L held xs n e s).1

    refused : AnyDone a L (listing xs)
    unfolding index_gives_any book_gives_any index_after_any book_after_any is_any_tear unless_refused answer Ready
    refused = record {
      gives = rw (sym (left a L held xs n e 4).0, no_buffer a L held xs n e 4, e) refl;
      ready = rw (kept 4, e) held;
      same = ap sizes (kept 4);
    }

    refused_torn : (s : ℕ) → AnyDone a L (torn_listing s xs)
    unfolding index_gives_any book_gives_any index_after_any book_after_any is_any_tear unless_refused Ready
    refused_torn s = record {
      gives = refl;
      ready = rw (kept s, e) (steady_pending Paired a L held);
      same = ap sizes (kept s);
    }

  listing_done : AnyDone a L (listing xs)
  listing_done = go (said L xs).number refl
    where
      go : (n : ℕ) → (said L xs).number ≡ n → AnyDone a L (listing xs)
      go zero e = appended e
      go (suc n) e = refused n e

  listing_torn : (s : ℕ) → BeforeEnd s (as_append L xs) → AnyDone a L (torn_listing s xs)
  listing_torn s g = go (said L xs).number refl
    where
      go : (n : ℕ) → (said L xs).number ≡ n → AnyDone a L (torn_listing s xs)
      go zero e = appended_torn e s g
      go (suc n) e = refused_torn n e s

  -- accepted or refused, nothing is published
  listing_torn_bytes : (junk : Three Bytes) → AnyDone a L (torn_listing_bytes xs junk)
  unfolding index_gives_any book_gives_any index_after_any book_after_any is_any_tear Ready
  listing_torn_bytes junk =
      let n : ℕ = (append_listing 4 xs a).answer.number in
      record {
        gives = refl;
        ready = steady_pending Paired (unless_refused n (step (write junk) a) a) L (torn_bytes_lem Paired a L held n junk);
        same = sizes_bytes n junk a;
      }

any_done : (w : Bool) (a : Areas) (L : List Rec) (e : AnyEvent) → Ready w Paired a L → LawfulAny (sizes a) w L e → AnyDone a L e
unfolding LawfulAny
any_done w a L (event e) r h =
    let d : Done w Paired a L e = done w Paired a L e r h in
    unfold index_gives_any book_gives_any index_after_any book_after_any is_any_tear in record { gives = d.gives; ready = d.ready; same = d.same }
any_done w a L (listing xs) r h = listing_done w a L r xs h.0 h.1
any_done w a L (torn_listing s xs) r h = listing_torn w a L r xs h.0 h.1 s h.2
any_done w a L (torn_listing_bytes xs junk) r h = listing_torn_bytes w a L r xs h.0 h.1 junk

-- ---- all events

record AllDone (w : Bool) (a : Areas) (L : List Rec) (es : List AnyEvent) : Type 0 where
  replies : any_index_replies a es ≡ any_book_replies (sizes a) L es
  ready : Ready (any_awaits w es) Paired (any_index_at_end a es) (any_book_at_end (sizes a) L es)

all_done : (es : List AnyEvent) (w : Bool) (a : Areas) (L : List Rec) → Ready w Paired a L → AllLawful (sizes a) w L es → AllDone w a L es
unfolding any_index_replies any_book_replies any_index_at_end any_book_at_end any_awaits AllLawful
all_done [] w a L r h = record { replies = refl; ready = r }
all_done (e ∷ es) w a L r h =
    let d : AnyDone a L e = any_done w a L e r h.0 in
    let N : List Rec = book_after_any (sizes a) L e in
    let t : AllDone (is_any_tear e) (index_after_any a e) N es = all_done es (is_any_tear e) (index_after_any a e) N d.ready (subst (λ (z : Three ℕ). AllLawful z (is_any_tear e) N es) (sym d.same) h.1) in
    record {
      replies = rw (d.gives, t.replies, d.same) refl;
      ready = rw d.same at t.ready;
    }

-- ---- from a creation on

module _ (a : Areas) (z : AllSized a) (es : List AnyEvent) (lawful : AllLawful (sizes a) false [] es) where
  from_creation : AllDone false (create a).areas [] es
  from_creation = all_done es false (create a).areas [] (created_ready a z Paired) (rw (created_sizes a z) lawful)

  pub steady_at_end : any_awaits false es ≡ false → Steady Paired (any_index_at_end (create a).areas es) (any_book_at_end (sizes a) [] es)
  unfolding Ready
  steady_at_end q = rw (q, created_sizes a z) at from_creation.ready

pub demand3_listings : Demand3Listings
unfolding Demand3Listings
demand3_listings a z es lawful = rw (created_sizes a z) at (from_creation a z es lawful).replies

pub demand3_listings_list : Demand3ListingsList
unfolding Demand3ListingsList
demand3_listings_list a z es lawful q = steady_stores Paired (any_index_at_end (create a).areas es) (any_book_at_end (sizes a) [] es) (steady_at_end a z es lawful q)
