-- Demand 3, proved: after every lawful history the index answers as the book does and holds its list.
-- By steps over the events: areas are pending while an opening is awaited, and steady elsewhere.
use Prim.Native.Nat.{ℕ, ◌+◌, ◌*◌}
use mathlib.Core.Path.{◌≡◌, refl, sym, ap, ◌∙◌, subst}
use mathlib.Core.Bool.{Bool, true, false, true≢false}
use mathlib.Core.List.{List, [], ◌∷◌, ◌++◌, map}
use Rattle.loc_leaf.specs.declared.Kind.{Kind}
use Rattle.loc_leaf.specs.Rows.{row_list}
use Rattle.loc_calls.specs.Areas.{Three, Areas, sizes}
use Rattle.loc_calls.specs.Table.{Entry, Call, opening, append, truncate, read, table}
use Rattle.loc_calls.specs.Stores.{write, step, run, staged}
use Rattle.loc_calls.specs.Calls.{unless_refused, is_opening, refusal, place_count, value, create_places, create}
use Rattle.loc_calls.proofs.Settled.{sizes_run, created, created_full}
use Rattle.loc_calls.proofs.Chains.{Chained, good_nil}
use Rattle.loc_calls.proofs.Appending.{whole_ends}
use Rattle.loc_calls.proofs.Reading.{slots_are, rows_are, checkpoints_are}
use Rattle.loc_calls.proofs.Audited.{full_audits}
use Rattle.loc_history.specs.Book.{Rec, rec_of, book_ends, book_refusal, book_next, Reply, book_reply}
use Rattle.loc_history.specs.History.{Event, finished, torn, torn_bytes, index_after, index_gives, index_replies, index_at_end, book_after, book_gives, book_replies, book_at_end, LawfulCall, Awaited, BeforeEnd, LawfulEvent, is_tear, awaits, Lawful, Sized, AllSized, Demand3, placed, Stores, Demand3List, AuditsTo1, OpeningReports}
use Rattle.loc_history.proofs.BookLaws.{ends_are}
use Rattle.loc_history.proofs.Steady.{Steady, Pending, steady_pending}
use Rattle.loc_history.proofs.Calls.{After, AfterTorn, sizes_call, sizes_bytes, finished_open, torn_open, finished_call, torn_call, torn_bytes_lem}

-- pending while an opening is awaited, steady elsewhere
unfoldable pub Ready : Bool → Kind → Areas → List Rec → Type 0
Ready true k a L = Pending k a L
Ready false k a L = Steady k a L

ready_pending : (w : Bool) (k : Kind) (a : Areas) (L : List Rec) → Ready w k a L → Pending k a L
unfolding Ready
ready_pending true k a L r = r
ready_pending false k a L r = steady_pending k a L r

pub ready_steady : (w : Bool) (k : Kind) (a : Areas) (L : List Rec) (c : Call) → Ready w k a L → Awaited w c → is_opening c ≡ false → Steady k a L
unfolding Ready Awaited
ready_steady true k a L c r h q = absurd (true≢false (sym (h refl) ∙ q))
ready_steady false k a L c r h q = r

-- ---- one call

module _ (w : Bool) (k : Kind) (a : Areas) (L : List Rec) (r : Ready w k a L) where
  after_finished : (c : Call) → Awaited w c → LawfulCall k (sizes a) L c → After k a L c
  unfolding is_opening
  after_finished opening h l = finished_open k a L (ready_pending w k a L r)
  after_finished (append b) h l = finished_call k a L (ready_steady w k a L (append b) r h refl) (append b) refl l
  after_finished (truncate n) h l = finished_call k a L (ready_steady w k a L (truncate n) r h refl) (truncate n) refl l
  after_finished (read ids out) h l = finished_call k a L (ready_steady w k a L (read ids out) r h refl) (read ids out) refl l

  after_torn : (s : ℕ) (c : Call) → Awaited w c → LawfulCall k (sizes a) L c → BeforeEnd s c → AfterTorn k a L s c
  unfolding is_opening
  after_torn s opening h l g = torn_open k a L (ready_pending w k a L r) s
  after_torn s (append b) h l g = torn_call k a L (ready_steady w k a L (append b) r h refl) s (append b) refl l g
  after_torn s (truncate n) h l g = torn_call k a L (ready_steady w k a L (truncate n) r h refl) s (truncate n) refl l g
  after_torn s (read ids out) h l g = torn_call k a L (ready_steady w k a L (read ids out) r h refl) s (read ids out) refl l g

-- ---- one event

pub record Done (w : Bool) (k : Kind) (a : Areas) (L : List Rec) (e : Event) : Type 0 where
  pub gives : index_gives k a e ≡ book_gives k (sizes a) L e
  pub ready : Ready (is_tear e) k (index_after k a e) (book_after k (sizes a) L e)
  pub same : sizes (index_after k a e) ≡ sizes a

pub done : (w : Bool) (k : Kind) (a : Areas) (L : List Rec) (e : Event) → Ready w k a L → LawfulEvent k (sizes a) w L e → Done w k a L e
unfolding index_gives book_gives index_after LawfulEvent is_tear Ready
done w k a L (finished c) r h =
    let f : After k a L c = after_finished w k a L r c h.0 h.1 in
    record { gives = ap (λ (x : Reply). x ∷ []) (rw (f.answer, f.buffer) refl); ready = f.steady; same = sizes_call k (place_count c) c a }
done w k a L (torn s c) r h =
    let f : AfterTorn k a L s c = after_torn w k a L r s c h.0 h.1 h.2 in
    record { gives = refl; ready = f.pending; same = sizes_call k s c a }
done w k a L (torn_bytes b junk) r h =
    let t : Steady k a L = ready_steady w k a L (append b) r h.0 (unfold is_opening in refl) in
    record {
      gives = refl;
      ready = unfold book_after in steady_pending k (unless_refused (refusal k (append b) a) (step (write junk) a) a) L (torn_bytes_lem k a L t (refusal k (append b) a) junk);
      same = sizes_bytes (refusal k (append b) a) junk a;
    }

-- ---- all events

module _ (k : Kind) where
  replies_are : (es : List Event) (w : Bool) (a : Areas) (L : List Rec) → Ready w k a L → Lawful k (sizes a) w L es → index_replies k a es ≡ book_replies k (sizes a) L es
  unfolding index_replies book_replies Lawful
  replies_are [] w a L r h = refl
  replies_are (e ∷ es) w a L r h =
      let d : Done w k a L e = done w k a L e r h.0 in
      let N : List Rec = book_after k (sizes a) L e in
      ap (λ (x : List Reply). x ++ index_replies k (index_after k a e) es) d.gives
      ∙ ap (λ (x : List Reply). book_gives k (sizes a) L e ++ x)
      (replies_are es (is_tear e) (index_after k a e) N d.ready (subst (λ (z : Three ℕ). Lawful k z (is_tear e) N es) (sym d.same) h.1) ∙ ap (λ (z : Three ℕ). book_replies k z N es) d.same)

  ready_after : (es : List Event) (w : Bool) (a : Areas) (L : List Rec) → Ready w k a L → Lawful k (sizes a) w L es → Ready (awaits w es) k (index_at_end k a es) (book_at_end k (sizes a) L es)
  unfolding index_at_end book_at_end Lawful awaits
  ready_after [] w a L r h = r
  ready_after (e ∷ es) w a L r h =
      let d : Done w k a L e = done w k a L e r h.0 in
      let N : List Rec = book_after k (sizes a) L e in
      subst (λ (z : Three ℕ). Ready (awaits (is_tear e) es) k (index_at_end k (index_after k a e) es) (book_at_end k z N es)) d.same
      (ready_after es (is_tear e) (index_after k a e) N d.ready (subst (λ (z : Three ℕ). Lawful k z (is_tear e) N es) (sym d.same) h.1))

-- ---- a creation

module _ (a : Areas) (z : AllSized a) where
  created_here : (create a).areas ≡ run 3 create_places a
  unfolding Sized
  created_here = created a z.slots z.rows z.checkpoints

  -- it keeps the sizes, and leaves the empty list
  pub created_sizes : sizes (create a).areas ≡ sizes a
  created_sizes = rw created_here (sizes_run 3 create_places a)

  pub created_steady : (k : Kind) → Steady k (create a).areas []
  unfolding Sized
  created_steady k = rw created_here (record {
    E = [];
    full = created_full a z.slots z.rows z.checkpoints k;
    is = refl;
    good = good_nil;
  })

  pub created_ready : (k : Kind) → Ready false k (create a).areas []
  unfolding Ready
  created_ready k = created_steady k

-- ---- from a creation on

module _ (k : Kind) (a : Areas) (z : AllSized a) (es : List Event) (lawful : Lawful k (sizes a) false [] es) where
  lawful_there : Lawful k (sizes (create a).areas) false [] es
  lawful_there = rw (created_sizes a z) lawful

  all_replies : index_replies k (create a).areas es ≡ book_replies k (sizes a) [] es
  all_replies = rw (created_sizes a z) at (replies_are k es false (create a).areas [] (created_ready a z k) lawful_there)

  at_end : Ready (awaits false es) k (index_at_end k (create a).areas es) (book_at_end k (sizes a) [] es)
  at_end = rw (created_sizes a z) at (ready_after k es false (create a).areas [] (created_ready a z k) lawful_there)

pub demand3 : Demand3
unfolding Demand3
demand3 k a z es lawful = all_replies k a z es lawful

-- ---- the list

-- a chained list is its records, placed
pub placed_is : (b s : ℕ) (E : List Entry) → Chained b s E → E ≡ placed b s (map rec_of E)
unfolding Chained placed rec_of
placed_is b s [] h = refl
placed_is b s (e ∷ E) h =
    ap (λ (x : Entry). x ∷ E)
    (ap (λ (x : ℕ). record { start = x; len = e.len; span_start = e.span_start; spans = e.spans }) h.0 ∙ ap (λ (x : ℕ). record { start = b; len = e.len; span_start = x; spans = e.spans }) h.1)
    ∙ ap (λ (l : List Entry). record { start = b; len = e.len; span_start = s; spans = e.spans } ∷ l) (placed_is (b + e.len) (s + 8 * e.spans) E h.2)

pub steady_stores : (k : Kind) (a : Areas) (L : List Rec) → Steady k a L → Stores k a L
steady_stores k a L t = record {
  ends = unfold whole_ends in (rw (t.full.slots.end, t.full.rows.end, t.full.checkpoints.end) refl) ∙ sym (ends_are k t.E t.full.valid) ∙ ap (book_ends k) (sym t.is);
  pieces =
      unfold row_list staged in (rw (slots_are k a t.E t.full, rows_are k a t.E t.full, checkpoints_are k a t.E t.full) refl)
      ∙ ap (staged k 0) (placed_is 16 16 t.E t.good.chained ∙ ap (placed 16 16) (sym t.is));
}

-- where no opening is awaited
module _ (k : Kind) (a : Areas) (z : AllSized a) (es : List Event) (lawful : Lawful k (sizes a) false [] es) (q : awaits false es ≡ false) where
  pub steady_at_end : Steady k (index_at_end k (create a).areas es) (book_at_end k (sizes a) [] es)
  unfolding Ready
  steady_at_end = subst (λ (w : Bool). Ready w k (index_at_end k (create a).areas es) (book_at_end k (sizes a) [] es)) q (at_end k a z es lawful)

pub demand3_list : Demand3List
unfolding Demand3List
demand3_list k a z es lawful q = steady_stores k (index_at_end k (create a).areas es) (book_at_end k (sizes a) [] es) (steady_at_end k a z es lawful q)

pub audits_to_1 : AuditsTo1
unfolding AuditsTo1
audits_to_1 k a z es lawful q =
    let t : Steady k (index_at_end k (create a).areas es) (book_at_end k (sizes a) [] es) = steady_at_end k a z es lawful q in
    full_audits k (index_at_end k (create a).areas es) t.E t.full t.good

pub opening_reports : OpeningReports
unfolding OpeningReports
opening_reports k a z es lawful =
    (finished_open k (index_at_end k (create a).areas es) (book_at_end k (sizes a) [] es)
    (ready_pending (awaits false es) k (index_at_end k (create a).areas es) (book_at_end k (sizes a) [] es) (at_end k a z es lawful))).answer
    ∙ unfold book_reply book_refusal book_next table value in refl
