-- The histories of this crate computed whole from the definitions, and that the lawful ones are lawful.
-- One proposition conjoins them.
use Prim.Native.Nat.{ℕ, zero, suc, ◌+◌, ◌^◌, ◌<◌}
use mathlib.Core.Path.{◌≡◌, refl, ap, ◌∙◌}
use mathlib.Core.Bool.{false}
use mathlib.Core.List.{List, [], ◌∷◌, flatten}
use native.Mathlib.Omega.{arith}
use lib.ListN.{replicate}
use Rattle.loc_leaf.specs.declared.Kind.TheVariants.{Paired, Single}
use Rattle.loc_leaf.specs.Bytes.{number, bytes, number_at, store}
use Rattle.loc_leaf.specs.Answers.{answer}
use Rattle.loc_leaf.specs.Area.{counted, store_length, store_past, pieces, fill, published}
use Rattle.loc_leaf.specs.Slot.{strides_refusal, slot, stored_as_zero, needs_row, inline, slot_at, checkpoint_rule}
use Rattle.loc_leaf.specs.Rows.{row, row_number, row_value, row_list, ascending, last_number, rows_up_to, row_for, has_row, lookup, slot_value, value_in}
use Rattle.loc_leaf.specs.Cut.{matches, cuts, cut_for}
use Rattle.loc_calls.specs.Areas.{sizes, count}
use Rattle.loc_calls.specs.Table.{value_of, body_after, span_after, zipped, entries, uneven, spanless, breaks, entry_refusal, entries_refusal, start_refusal, end_past, batch_refusal, table}
use Rattle.loc_calls.specs.Stores.{step, run, differing, truncate_places, next_row, holds_next, cut_rule, ruled_count, ruled, open_places, ragged, open_refusal, stores, any_stores, settled, checkpoint, gather, row_of, checkpoint_of, staged, new_end, new_ends, append_places}
use Rattle.loc_calls.specs.Reading.{sum_after, all_after, lookup_at, has, value_at, strides_after, spans_after, checkpoint_at, window_end, looked_at, within, row_missing, any_missing, words, words_for, answered, found, body_read, span_read, end_read}
use Rattle.loc_calls.specs.Calls.{unless_refused, too_small, unread, is_opening, refusal, places, value, lent, buffer, areas_after, call, create_places, create}
use Rattle.loc_history.specs.Book.{rec_of, records, len_sum, span_sum, body_end, span_end, checkpoint_count, takes_row, row_count, book_ends, list_end, book_refusal, book_next, record_words, book_words, Reply, book_reply, longest, longest_part, append_torn, truncate_torn, book_torn}
use Rattle.loc_history.specs.History.{index_after, index_gives, index_replies, book_after, book_gives, book_replies, EndsBelow, Narrow, LawfulCall, Awaited, BeforeEnd, LawfulEvent, is_tear, Lawful, Sized, AllSized, Demand3}
use Rattle.loc_history.proofs.History.{demand3}
use Rattle.loc_premises.specs.Replies.{gives, refuses, reads, small, wide, Both, Differ}
use Rattle.loc_premises.specs.Lawful.{story, story_replies, single_story, single_replies, forged_story, forged_replies, long_story, long_replies}
use Rattle.loc_premises.specs.Broken.{bytes15, opened_small, not_opened, torn_after_end, wide_spans}

pub narrow : (n c : ℕ) → c < 2 ^ 32 → Narrow Paired (replicate n c)
unfolding Narrow
narrow zero c h = tt
narrow (suc n) c h = (h, narrow n c h)

-- to unfold this is to unfold all that a history is computed by
unfoldable pub everything : Type 0
unfolding number bytes number_at store answer counted store_length store_past pieces fill published strides_refusal slot stored_as_zero needs_row inline slot_at checkpoint_rule row row_number row_value row_list ascending last_number rows_up_to row_for has_row lookup slot_value matches cuts cut_for sizes count value_of body_after span_after zipped entries uneven spanless breaks entry_refusal entries_refusal start_refusal end_past batch_refusal table step run differing truncate_places next_row holds_next cut_rule ruled_count ruled open_places ragged open_refusal stores any_stores settled checkpoint gather row_of checkpoint_of staged new_end new_ends append_places sum_after all_after lookup_at has value_in value_at strides_after spans_after checkpoint_at window_end looked_at within row_missing any_missing words words_for answered found body_read span_read end_read unless_refused too_small unread is_opening refusal places value lent buffer areas_after call create_places create flatten rec_of records len_sum span_sum body_end span_end checkpoint_count takes_row row_count book_ends list_end book_refusal book_next record_words book_words book_reply longest longest_part append_torn truncate_torn book_torn index_after index_gives index_replies book_after book_gives book_replies EndsBelow Narrow LawfulCall Awaited BeforeEnd LawfulEvent is_tear Lawful Sized
everything = Unit

-- one event after another
infixr 20 ◌then◌
abbrev ◌then◌ : {A B : Type 0} → A → B → A × B
x then y = (x, y)

-- replies that add up to different numbers are different
abbrev total : List ℕ → ℕ
total [] = 0
total (x ∷ xs) = x + total xs

abbrev weight : List Reply → ℕ
weight [] = 0
weight (r ∷ rs) = r.answer.number + r.answer.value + total r.buffer + weight rs

-- ---- what is computed

pub record Computed : Type 0 where
  -- the premises can be met
  pub paired : Both Paired small story story_replies
  pub single : Both Single small single_story single_replies
  pub forged : Both Paired small forged_story forged_replies
  pub edge : book_replies Paired (sizes wide) [] long_story ≡ long_replies
  pub sized : AllSized small
  pub edge_sized : AllSized wide
  pub lawful : Lawful Paired (sizes small) false [] story
  pub single_lawful : Lawful Single (sizes small) false [] single_story
  pub edge_lawful : Lawful Paired (sizes wide) false [] long_story
  -- and each is needed
  pub sized_needed : Differ Paired bytes15 opened_small (gives 1 0 ∷ []) (gives 0 0 ∷ [])
  pub awaited_needed : Differ Paired small not_opened (refuses 6 (replicate 6 9) ∷ []) (reads 1 (1 ∷ 16 ∷ 40 ∷ 16 ∷ 24 ∷ 3 ∷ []) ∷ [])
  pub before_end_needed : Differ Paired small torn_after_end (gives 0 2 ∷ gives 0 1 ∷ []) (gives 0 2 ∷ gives 0 2 ∷ [])
  pub narrow_needed : Differ Paired small wide_spans (gives 0 1 ∷ reads 1 (1 ∷ 16 ∷ 8 ∷ 16 ∷ 8 ∷ 1 ∷ []) ∷ []) (gives 0 1 ∷ reads 1 (1 ∷ 16 ∷ 8 ∷ 16 ∷ 34359738376 ∷ 4294967297 ∷ []) ∷ [])

pub computed : Computed
unfolding everything
computed = record {
  paired = (refl, refl);
  single = (refl, refl);
  forged = (refl, refl);
  edge = refl;
  edge_sized = record { slots = omega arith; rows = omega arith; checkpoints = omega arith };
  sized = record { slots = omega arith; rows = omega arith; checkpoints = omega arith };
  lawful =
      ((λ p. p), ((omega arith, tt), λ _. (omega arith, omega arith)))
      then ((λ p. p), ((omega arith, (omega arith, tt)), λ _. (omega arith, omega arith)))
      then ((λ p. p), tt)
      then ((λ p. p), ((omega arith, tt), λ _. (omega arith, omega arith)))
      then ((λ p. p), ((omega arith, (omega arith, tt)), λ _. (omega arith, omega arith)), omega arith)
      then ((λ p. p), tt)
      then ((λ p. p), ((omega arith, (omega arith, tt)), λ _. (omega arith, omega arith)), omega arith)
      then ((λ p. p), tt, omega arith)
      then ((λ p. p), tt)
      then ((λ p. p), tt)
      then ((λ p. p), tt)
      then ((λ p. p), ((omega arith, (omega arith, tt)), λ _. (omega arith, omega arith)))
      then ((λ p. p), tt, omega arith)
      then ((λ p. p), tt)
      then ((λ p. p), ((omega arith, (omega arith, tt)), λ _. (omega arith, omega arith)))
      then ((λ p. p), tt)
      then ((λ p. p), tt, omega arith)
      then ((λ p. p), tt)
      then tt;
  single_lawful =
      ((λ p. p), (tt, λ _. omega arith))
      then ((λ p. p), (tt, λ _. omega arith))
      then ((λ p. p), tt)
      then ((λ p. p), (tt, λ _. omega arith), omega arith)
      then ((λ p. p), tt, omega arith)
      then ((λ p. p), tt)
      then ((λ p. p), tt)
      then ((λ p. p), tt, omega arith)
      then ((λ p. p), tt)
      then ((λ p. p), tt)
      then ((λ p. p), (tt, λ _. omega arith))
      then ((λ p. p), tt, omega arith)
      then ((λ p. p), tt)
      then ((λ p. p), (tt, λ _. omega arith))
      then ((λ p. p), (tt, λ _. omega arith))
      then ((λ p. p), tt)
      then tt;
  edge_lawful =
      ((λ p. p), (narrow 1026 2 (omega arith), λ _. (omega arith, omega arith)), omega arith)
      then ((λ p. p), tt)
      then ((λ p. p), (narrow 1026 2 (omega arith), λ _. (omega arith, omega arith)))
      then ((λ p. p), tt)
      then ((λ p. p), (narrow 1026 2 (omega arith), λ _. (omega arith, omega arith)))
      then ((λ p. p), tt)
      then ((λ p. p), tt, omega arith)
      then ((λ p. p), tt)
      then tt;
  sized_needed = (refl, refl, λ p. let z : ◌≡◌ {A = ℕ} 1 0 = ap weight p in omega arith);
  awaited_needed = (refl, refl, λ p. let z : ◌≡◌ {A = ℕ} 60 101 = ap weight p in omega arith);
  before_end_needed = (refl, refl, λ p. let z : ◌≡◌ {A = ℕ} 3 4 = ap weight p in omega arith);
  narrow_needed = (refl, refl, λ p. let z : ◌≡◌ {A = ℕ} 52 38654705716 = ap weight p in omega arith);
}

-- so the theorem has something to say
pub story_by_demand3 : index_replies Paired (create small).areas story ≡ book_replies Paired (sizes small) [] story
unfolding Demand3
story_by_demand3 = demand3 Paired small computed.sized story computed.lawful

pub single_by_demand3 : index_replies Single (create small).areas single_story ≡ book_replies Single (sizes small) [] single_story
unfolding Demand3
single_by_demand3 = demand3 Single small computed.sized single_story computed.single_lawful

-- the index over a window's edge, by the theorem: its stores of 2,052 bytes one by one are long to compute
pub edge_by_demand3 : index_replies Paired (create wide).areas long_story ≡ long_replies
unfolding Demand3
edge_by_demand3 = demand3 Paired wide computed.edge_sized long_story computed.edge_lawful ∙ computed.edge
