-- A list whose numbers all lie in one window: what the sums of that window and its answers ask, and what the reading gives.
-- It is one turn of the walk, over the places of the list in place of keys.
use Prim.Native.Nat.{ℕ, ◌+◌, ◌*◌, ◌^◌, ◌≤◌, ◌<◌}
use mathlib.Core.Path.{◌≡◌, refl}
use mathlib.Core.Bool.{true, false}
use mathlib.Core.List.{List, []}
use lib.ListN.{length, get_or}
use Rattle.std.specs.Prelude.{Option}
use Rattle.std.specs.Option.{is_some}
use Rattle.loc_leaf.specs.declared.Kind.{Kind}
use Rattle.loc_leaf.specs.declared.refusal.Refusal.TheVariants.{RowMissing}
use Rattle.loc_leaf.specs.Answers.{accepted_with, refused_by}
use Rattle.loc_leaf.specs.Bytes.{Bytes}
use Rattle.loc_leaf.specs.Kind.{checkpoint_width, window_of}
use Rattle.loc_leaf.specs.Rows.{row_list}
use Rattle.loc_calls.specs.Areas.{Areas}
use Rattle.loc_calls.specs.Table.{read, word_width}
use Rattle.loc_calls.specs.Reading.{window_end}
use Rattle.loc_calls.specs.Calls.{call}
use Rattle.loc_calls.specs.Promises.{Read}
use Rattle.loc_order.specs.Keys.{places_from, wanted_by}
use Rattle.loc_answer.specs.Words.{AllSome, SamePast, RunSafe, RunPut}
use Rattle.loc_window.specs.declared.PlannedWindow.{PlannedWindow}
use Rattle.loc_window.specs.declared.Sums.{Sums}
use Rattle.loc_window.specs.Window.{sums_of, Summing, WindowSummed, Copied}
use Rattle.loc_window.specs.Planned.{planned}
use Rattle.loc_window.proofs.CheckpointLaws.{end_of_bodies, end_of_spans}
use Rattle.loc_store.specs.declared.Checked.{Checked}
use Rattle.loc_runs.specs.Runs.{OneRun}
use Rattle.loc_runs.proofs.RunLaws.{own_first, own_some}
use Rattle.loc_read.specs.Walk.{InArrays}
use Rattle.loc_read.specs.Read.{Tested}
use Rattle.loc_read.proofs.WindowLaws.{summing_asked, arrays_summed, window_lacking}
use Rattle.loc_read.proofs.WalkLaws.{Turn, turn, passing_none, turn_few, turn_low, turn_lacks, turn_safe, passing_next, finished_17, finished_own}
use Rattle.loc_read.proofs.ReadLaws.{read_17, read_own}

module _ (k : Kind) (a : Areas) (f : Checked) (ids out : List ℕ) (t : Tested k a f ids out) (m : ℕ) (mark : List ℕ) (o : OneRun k f.count ids m mark)
    (w : ℕ) (ew : w ≡ window_of (get_or ids 0 0)) where
  abbrev n : ℕ
  n = f.count

  abbrev nr : ℕ
  nr = f.row_count

  abbrev own : List ℕ
  own = places_from 0 (length ids)

  own_window : w ≡ window_of (wanted_by ids own 0)
  own_window = own_first k n ids m mark t.few o w ew

  pub own_turn : (rs : List Bytes) (window : PlannedWindow) → window ≡ planned rs (1024 * w) m → Turn k a n nr ids own 0 (length ids) 1 mark window
  own_turn rs window e = turn k a n nr ids own 0 (length ids) 1 mark window rs (wanted_by ids own 0) w m e own_window refl t.readable o.keys o.run

  pub own_low : 1024 * w + 1024 < 2 ^ 64
  own_low = (turn_low (own_turn [] (planned [] (1024 * w) m) refl)).0

  module _ (window : PlannedWindow) (e : window ≡ planned (row_list k a.rows) (1024 * w) m) where
    abbrev u : Turn k a n nr ids own 0 (length ids) 1 mark window
    u = own_turn (row_list k a.rows) window e

    pub own_asks : (bytes : Bytes) (body span : List ℕ) → length mark ≡ 128 → length bytes ≡ 2048 → length body ≡ 1025 → length span ≡ 1025
        → (length mark ≡ 128) × Summing k (length body) window.base window.m bytes a.rows window.past mark 1 0 (sums_of 0 0 window.first 0) body span
    own_asks bytes body span el eb e₁ e₂ =
        summing_asked k (1024 * w) m bytes a.rows nr mark 1 body span window e (turn_few u) (turn_low u).0 t.readable.rise el eb e₁ e₂

    module _ (bytes old : Bytes) (copied : Copied a.slots (16 + 2 * window.base) (2 * window.m) old bytes) (body span : List ℕ) (r : Option Sums)
        (v : WindowSummed k window.base bytes a.rows mark 1 window.m body span r) where
      -- a slot that is looked at lacks its row
      pub own_17 : is_some r ≡ false → Read (call k 0 (read ids out) a) (refused_by 17) out
      own_17 l =
          read_17 k a f ids out t RowMissing out
          (finished_17 k a ids out (turn_lacks u bytes old copied (window_lacking k window.base window.m bytes a.rows mark 1 body span r v l)))

      module _ (l : is_some r ≡ true) (e₁ : length body ≡ 1025) (e₂ : length span ≡ 1025) where
        arrays : InArrays k window.base window.m bytes a.rows mark 1 body span
        arrays = arrays_summed k window.base window.m bytes a.rows mark 1 body span r v l e₁ e₂

        pub own_puts : (length ids ≤ 1024) × AllSome ids × RunSafe k ids own 0 (length ids) body span out
        own_puts = (
          t.few,
          own_some k n ids m mark t.few o,
          turn_safe u bytes old copied body span arrays out t.room,
        )

        -- the answers went straight into the buffer
        pub own_read : (b c : ℕ) (new : List ℕ) → (8 ≤ checkpoint_width k → b ≡ window_end k a 0 w) → (16 ≤ checkpoint_width k → c ≡ window_end k a 8 w)
            → RunPut k ids own 0 (length ids) b c body span out new × SamePast (word_width k * length ids) out new
            → Read (call k 0 (read ids out) a) (accepted_with (length ids)) new
        own_read b c new eb ec put =
            read_own k a f ids out t new o.keys
            (finished_own k a ids out new t.few
            (passing_next u bytes old copied body span arrays b c
            (end_of_bodies k a w (window_of (wanted_by ids own 0)) b eb own_window) (end_of_spans k a w (window_of (wanted_by ids own 0)) c ec own_window) out out new (passing_none k a ids own out) put.0))
            put.0.long put.1
