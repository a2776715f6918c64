-- Each call on areas that hold the book's list, and opening on those that it takes to it, does as the book says.
-- The index and the book refuse alike: only their counts and ends had to be shown equal.
use Prim.Native.Nat.{ℕ, zero, suc, ◌+◌, ◌-◌, ◌*◌, ◌≤◌, ◌<◌}
use mathlib.Core.Path.{◌≡◌, refl, sym, ap, ◌∙◌, subst, fun_ext}
use mathlib.Core.Logic.{◌⊎◌, inl, inr}
use mathlib.Core.Bool.{Bool, true, false, cond, ◌&&◌}
use mathlib.Core.List.{List, [], ◌∷◌, ◌++◌, map, map-append}
use native.Mathlib.Nat.{suc-ne-zero, not-suc-le-zero}
use native.Mathlib.Omega.{arith}
use lib.Dec.{leb, ltb}
use lib.ListN.{length, take, drop, get_or, replicate, get_or-map}
use lib.Seq.{split_at}
use borrow.Author.Tests.{ltb-true, ltb-false, leb-true}
use Rattle.loc_leaf.specs.declared.Kind.{Kind}
use Rattle.loc_leaf.specs.declared.Kind.TheVariants.{Paired, Single}
use Rattle.loc_leaf.specs.Bytes.{Bytes}
use Rattle.loc_leaf.specs.Answers.{refuse, ◌or_else◌, answer}
use Rattle.loc_leaf.proofs.Booleans.{is?, both_left, both_right}
use Rattle.loc_calls.specs.Areas.{Three, Areas, sizes, count}
use Rattle.loc_calls.specs.Table.{Entry, Batch, Call, opening, append, truncate, read, entries, uneven, entries_refusal, start_refusal, end_past, batch_refusal, word_width, table}
use Rattle.loc_calls.specs.Stores.{write, step, run, new_ends, staged}
use Rattle.loc_calls.specs.Reading.{within, words_for, end_read}
use Rattle.loc_calls.specs.Calls.{unless_refused, is_opening, table_of, refusal, places, place_count, value, buffer, areas_after, call}
use Rattle.loc_calls.proofs.Gathered.{AllValid, valid_append}
use Rattle.loc_calls.proofs.Settled.{sizes_step, sizes_run, opening_accepted, refusal_is}
use Rattle.loc_calls.proofs.Chains.{lens, spans, Chained, chained_at, Good}
use Rattle.loc_leaf.proofs.Refusals.{or_else_right, or_else_zero, refuse_zero}
use Rattle.loc_calls.proofs.Batches.{SpansOf, all_valid, Fits, batch_tested, batch_fits}
use Rattle.loc_calls.proofs.Appending.{new_ends_lem, written_full}
use Rattle.loc_calls.proofs.Reading.{none, entry_words, words_are, none_unread}
use Rattle.loc_calls.proofs.Ends.{end_read_lem}
use Rattle.loc_history.specs.Book.{Rec, rec_of, records, book_ends, list_end, book_refusal, book_next, record_words, book_words, book_reply, book_torn}
use Rattle.loc_history.specs.History.{finished, torn, book_after, EndsBelow, Narrow, LawfulCall, BeforeEnd}
use Rattle.loc_history.proofs.BookLaws.{map_take, body_end_lem, span_end_lem, ends_are}
use Rattle.loc_history.proofs.Steady.{Steady, Pending, steady_pending, open_torn, open_done, same_length, count_book, cut_done, cut_torn, add_done, add_torn}
use Rattle.loc_history.proofs.Following.{batch_spans, good_more}

-- ---- refusals and words

module _ (k : Kind) (a : Areas) (L : List Rec) (t : Steady k a L) where
  -- the ends that a valid batch would reach are the book's
  new_ends_are : (es : List Entry) → AllValid k es → new_ends k a es ≡ book_ends k (L ++ map rec_of es)
  new_ends_are es v =
      new_ends_lem k a t.E es t.full
      ∙ sym (ends_are k (t.E ++ es) (valid_append k t.E es t.full.valid v))
      ∙ ap (book_ends k) (map-append rec_of t.E es ∙ ap (λ (l : List Rec). l ++ map rec_of es) (sym t.is))

  -- the index ends where the book does
  end_same : end_read k a ≡ list_end L
  unfolding list_end
  end_same = end_read_lem k a t.E t.full t.good ∙ rw (t.is, body_end_lem t.E, span_end_lem t.E) refl

  batch_same : (es : List Entry) → SpansOf k es → batch_refusal k (end_read k a) (new_ends k a es) (sizes a) es ≡ batch_refusal k (list_end L) (book_ends k (L ++ map rec_of es)) (sizes a) es
  unfolding batch_refusal
  batch_same [] n = refl
  batch_same (e ∷ es) n = rw end_same (ap (λ (m : ℕ). start_refusal (list_end L) e or_else m) (go (entries_refusal k (e ∷ es)) refl))
    where
      go : (m : ℕ) → entries_refusal k (e ∷ es) ≡ m
          → (entries_refusal k (e ∷ es) or_else refuse (end_past (new_ends k a (e ∷ es)) (sizes a)) 13) ≡ (entries_refusal k (e ∷ es) or_else refuse (end_past (book_ends k (L ++ map rec_of (e ∷ es))) (sizes a)) 13)
      go zero p = ap (λ (x : Three ℕ). entries_refusal k (e ∷ es) or_else refuse (end_past x (sizes a)) 13) (new_ends_are (e ∷ es) (all_valid k (e ∷ es) p n))
      go (suc m) p = rw p refl

  table_same : (c : Call) → LawfulCall k (sizes a) L c → table_of k a c ≡ book_refusal k (sizes a) L c
  unfolding table book_refusal LawfulCall
  table_same opening h = refl
  table_same (append b) h = ap (λ (x : ℕ). refuse (uneven k b) 7 or_else x) (batch_same (entries k b) (batch_spans k b h.0))
  table_same (truncate w) h = rw (count_book k a L t) refl
  table_same (read ids out) h = refl

  -- 1 to 6 and 17 never come
  pub refusal_same : (c : Call) → is_opening c ≡ false → LawfulCall k (sizes a) L c → refusal k c a ≡ book_refusal k (sizes a) L c
  refusal_same c h l =
      refusal_is k a t.E t.full c h
      ∙ ap (λ (b : Bool). table_of k a c or_else refuse b 17) (none_unread k a t.E t.full c)
      ∙ or_else_zero (table_of k a c)
      ∙ table_same c l

  -- a record's words are the book's
  record_words_lem : (i : ℕ) → i < length t.E → entry_words k (get_or t.E i none) ≡ record_words k (take i L) (get_or L i (record { len = 0; spans = 0 }))
  record_words_lem i h = rw (rec_is, ends_there) (go k)
    where
      it : Entry
      it = get_or t.E i none

      rec_is : get_or L i (record { len = 0; spans = 0 }) ≡ rec_of it
      rec_is = unfold rec_of in ap (λ (l : List Rec). get_or l i (record { len = 0; spans = 0 })) t.is ∙ get_or-map rec_of t.E i none

      ends_there : take i L ≡ map rec_of (take i t.E)
      ends_there = ap (take i) t.is ∙ sym (map_take rec_of i t.E)

      starts : (it.start ≡ 16 + lens (take i t.E)) × (it.span_start ≡ 16 + 8 * spans (take i t.E))
      starts = chained_at 16 16 (take i t.E) it (drop (suc i) t.E) (subst (Chained 16 16) (split_at t.E i none h) t.good.chained)

      go : (k : Kind) → entry_words k it ≡ record_words k (map rec_of (take i t.E)) (rec_of it)
      go Paired = unfold entry_words record_words rec_of in (rw (starts.0, starts.1, body_end_lem (take i t.E), span_end_lem (take i t.E)) refl)
      go Single = unfold entry_words record_words rec_of in (rw (starts.0, body_end_lem (take i t.E)) refl)

  words_same : (id : ℕ) → words_for k a id ≡ book_words k L id
  unfolding book_words
  words_same id = words_are k a t.E t.full t.good id ∙ rw (sym (same_length k a L t)) (go (is? (within (length L) id)))
    where
      go : (within (length L) id ≡ true) ⊎ (within (length L) id ≡ false)
          → cond (within (length L) id) (entry_words k (get_or t.E (id - 1) none)) (replicate (word_width k) 0)
          ≡ cond (within (length L) id) (record_words k (take (id - 1) L) (get_or L (id - 1) (record { len = 0; spans = 0 }))) (replicate (word_width k) 0)
      go (inl q) = rw q (record_words_lem (id - 1) (omega (arith, same_length k a L t, leb-true id (length L) (both_right (ltb 0 id) (leb id (length L)) inside), ltb-true 0 id (both_left (ltb 0 id) (leb id (length L)) inside))))
        where
          inside : (ltb 0 id && leb id (length L)) ≡ true
          inside = unfold within in q
      go (inr q) = rw q refl

  pub words_book : words_for k a ≡ book_words k L
  words_book = fun_ext words_same

  pub buffer_same : (c : Call) → buffer c (words_for k a) ≡ buffer c (book_words k L)
  buffer_same c = ap (buffer c) words_book

-- ---- a call that the index and the book refuse alike

-- what a finished call leaves and gives
pub record After (k : Kind) (a : Areas) (L : List Rec) (c : Call) : Type 0 where
  pub answer : (call k (place_count c) c a).answer ≡ (book_reply k (sizes a) L c).answer
  pub buffer : (call k (place_count c) c a).buffer ≡ (book_reply k (sizes a) L c).buffer
  pub steady : Steady k (call k (place_count c) c a).areas (book_after k (sizes a) L (finished c))

pub record AfterTorn (k : Kind) (a : Areas) (L : List Rec) (s : ℕ) (c : Call) : Type 0 where
  pub pending : Pending k (call k s c a).areas (book_after k (sizes a) L (torn s c))

pub sizes_call : (k : Kind) (s : ℕ) (c : Call) (a : Areas) → sizes (call k s c a).areas ≡ sizes a
unfolding call areas_after unless_refused
sizes_call k s c a = go (refusal k c a)
  where
    go : (n : ℕ) → sizes (unless_refused n (run s (places k c a) a) a) ≡ sizes a
    go zero = sizes_run s (places k c a) a
    go (suc n) = refl

pub sizes_bytes : (n : ℕ) (junk : Three Bytes) (a : Areas) → sizes (unless_refused n (step (write junk) a) a) ≡ sizes a
unfolding unless_refused
sizes_bytes zero junk a = sizes_step (write junk) a
sizes_bytes (suc n) junk a = refl

module _ (k : Kind) (a : Areas) (L : List Rec) (c : Call) (n : ℕ) (p : refusal k c a ≡ n) (q : book_refusal k (sizes a) L c ≡ n) where
  finishes : (n ≡ 0 → Steady k (run (place_count c) (places k c a) a) (book_next k L c)) → ((m : ℕ) → n ≡ suc m → Steady k a L)
      → buffer c (words_for k a) ≡ buffer c (book_words k L) → After k a L c
  unfolding call areas_after book_reply book_after
  finishes yes' no' w = record {
    answer = rw (p, q) (answers n yes');
    buffer = rw (p, q, w) refl;
    steady = rw (p, q) (left n yes' no');
  }
    where
      answers : (n : ℕ) → (n ≡ 0 → Steady k (run (place_count c) (places k c a) a) (book_next k L c))
          → answer n (value c (count (unless_refused n (run (place_count c) (places k c a) a) a))) ≡ answer n (value c (length (book_next k L c)))
      answers zero y = unfold unless_refused in ap (λ (m : ℕ). answer 0 (value c m)) (count_book k (run (place_count c) (places k c a) a) (book_next k L c) (y refl))
      answers (suc n) y = unfold answer in refl

      left : (n : ℕ) → (n ≡ 0 → Steady k (run (place_count c) (places k c a) a) (book_next k L c)) → ((m : ℕ) → n ≡ suc m → Steady k a L)
          → Steady k (unless_refused n (run (place_count c) (places k c a) a) a) (unless_refused n (book_next k L c) L)
      left zero y z = unfold unless_refused in y refl
      left (suc n) y z = unfold unless_refused in z n refl

  tears : (s : ℕ) → (n ≡ 0 → Pending k (run s (places k c a) a) (book_torn k s L c)) → ((m : ℕ) → n ≡ suc m → Pending k a L) → AfterTorn k a L s c
  unfolding call areas_after book_after
  tears s yes' no' = record { pending = rw (p, q) (left n yes' no') }
    where
      left : (n : ℕ) → (n ≡ 0 → Pending k (run s (places k c a) a) (book_torn k s L c)) → ((m : ℕ) → n ≡ suc m → Pending k a L)
          → Pending k (unless_refused n (run s (places k c a) a) a) (unless_refused n (book_torn k s L c) L)
      left zero y z = unfold unless_refused in y refl
      left (suc n) y z = unfold unless_refused in z n refl

-- ---- opening

module _ (k : Kind) (a : Areas) (L : List Rec) (p : Pending k a L) where
  accepted : refusal k opening a ≡ 0
  accepted = opening_accepted k a p.partial.E p.partial.r p.partial.c p.partial.state

  book_accepts : book_refusal k (sizes a) L opening ≡ 0
  unfolding book_refusal table
  book_accepts = refl

  never : {A : Type 0} (m : ℕ) → 0 ≡ suc m → A
  never m e = absurd (suc-ne-zero m (sym e))

  pub finished_open : After k a L opening
  unfolding places book_next buffer
  finished_open = finishes k a L opening 0 accepted book_accepts (λ _. open_done k a L p) (λ m e. never m e) refl

  pub torn_open : (s : ℕ) → AfterTorn k a L s opening
  unfolding places book_torn
  torn_open s = tears k a L opening 0 accepted book_accepts s (λ _. open_torn k a L p s) (λ m e. never m e)

-- ---- the other calls

module _ (k : Kind) (a : Areas) (L : List Rec) (t : Steady k a L) where
  -- an accepted batch
  module _ (b : Batch) (n : Narrow k b.span_counts) (ok : book_refusal k (sizes a) L (append b) ≡ 0) (f : EndsBelow k (L ++ records k b)) where
    batch_ok : batch_refusal k (end_read k a) (new_ends k a (entries k b)) (sizes a) (entries k b) ≡ 0
    unfolding book_refusal table
    batch_ok =
        batch_same k a L t (entries k b) (batch_spans k b n)
        ∙ or_else_right (refuse (uneven k b) 7) (batch_refusal k (list_end L) (book_ends k (L ++ map rec_of (entries k b))) (sizes a) (entries k b)) ok

    valid : AllValid k (entries k b)
    valid = all_valid k (entries k b) (batch_tested k (end_read k a) (new_ends k a (entries k b)) (sizes a) (entries k b) batch_ok) (batch_spans k b n)

    room : Fits a (staged k (count a) (entries k b))
    room = batch_fits k (end_read k a) a (entries k b) batch_ok

    good : Good (t.E ++ entries k b)
    unfolding records
    good =
        good_more k t.E (entries k b) (new_ends k a (entries k b)) (sizes a) t.full.valid valid t.good
        (rw (end_read_lem k a t.E t.full t.good) at batch_ok) (rw t.is at f)

  -- an accepted truncation
  short_enough : (w : ℕ) → book_refusal k (sizes a) L (truncate w) ≡ 0 → w ≤ length L
  unfolding book_refusal table
  short_enough w q = ltb-false (length L) w (refuse_zero (ltb (length L) w) 13 q)

  does : (c : Call) → is_opening c ≡ false → LawfulCall k (sizes a) L c → book_refusal k (sizes a) L c ≡ 0 → Steady k (run (place_count c) (places k c a) a) (book_next k L c)
  unfolding is_opening LawfulCall places book_next records
  does opening h l q = open_done k a L (steady_pending k a L t)
  does (append b) h l q = add_done k a L t (entries k b) (valid b l.0 q (l.1 q)) (room b l.0 q (l.1 q)) (good b l.0 q (l.1 q))
  does (truncate w) h l q = cut_done k a L t w (short_enough w q)
  does (read ids out) h l q = unfold run in t

  does_torn : (s : ℕ) (c : Call) → LawfulCall k (sizes a) L c → BeforeEnd s c → book_refusal k (sizes a) L c ≡ 0 → Pending k (run s (places k c a) a) (book_torn k s L c)
  unfolding LawfulCall BeforeEnd places book_torn records
  does_torn s opening l h q = open_torn k a L (steady_pending k a L t) s
  does_torn s (append b) l h q = add_torn k a L t (entries k b) (valid b l.0 q (l.1 q)) (room b l.0 q (l.1 q)) (good b l.0 q (l.1 q)) s h
  does_torn s (truncate w) l h q = cut_torn k a L t w (short_enough w q) s h
  does_torn s (read ids out) l h q = absurd (not-suc-le-zero h)

  pub finished_call : (c : Call) → is_opening c ≡ false → LawfulCall k (sizes a) L c → After k a L c
  finished_call c h l = finishes k a L c (book_refusal k (sizes a) L c) (refusal_same k a L t c h l) refl (λ q. does c h l q) (λ _ _. t) (buffer_same k a L t c)

  pub torn_call : (s : ℕ) (c : Call) → is_opening c ≡ false → LawfulCall k (sizes a) L c → BeforeEnd s c → AfterTorn k a L s c
  torn_call s c h l g = tears k a L c (book_refusal k (sizes a) L c) (refusal_same k a L t c h l) refl s (λ q. does_torn s c l g q) (λ _ _. steady_pending k a L t)

  -- an append torn inside its byte stores
  pub torn_bytes_lem : (n : ℕ) (junk : Three Bytes) → Steady k (unless_refused n (step (write junk) a) a) L
  unfolding unless_refused
  torn_bytes_lem zero junk = record { E = t.E; full = written_full k a t.E junk t.full; is = t.is; good = t.good }
  torn_bytes_lem (suc n) junk = t
