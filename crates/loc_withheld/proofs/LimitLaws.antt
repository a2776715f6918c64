-- The limit is what loc_calls says of areas that number 6 lets pass.
-- There the rows are whole, so the row at an edge below their end is one of them.
use Prim.Native.Nat.{ℕ, suc, ◌+◌, ◌*◌, ◌^◌, ◌≤◌, ◌<◌}
use mathlib.Core.Path.{◌≡◌, refl}
use mathlib.Core.Bool.{true}
use native.Mathlib.Nat.{mul-suc, mul-le-mul_left}
use native.Mathlib.Omega.{arith}
use Rattle.std.specs.Prelude.{Ok}
use lib.ListN.{length}
use borrow.Author.Tests.{le-leb}
use Rattle.loc_leaf.specs.declared.Kind.{Kind}
use Rattle.loc_leaf.specs.declared.refusal.Refusal.{Refusal}
use Rattle.loc_leaf.specs.Answers.{accepted_with, refused_by, number_of, answer}
use Rattle.loc_leaf.specs.Area.{counted, fill}
use Rattle.loc_leaf.specs.Kind.{row_width}
use Rattle.loc_leaf.proofs.Refusals.{number_some}
use Rattle.loc_leaf.proofs.AreaLaws.{counted_le}
use Rattle.loc_calls.specs.Areas.{Areas, count}
use Rattle.loc_calls.specs.Calls.{first_refusal}
use Rattle.loc_calls.specs.Withheld.{on_edge, limited, rows_before, cut_at, withheld_limit, withheld}
use Rattle.loc_calls.proofs.Outcomes.{answer_refused}
use Rattle.loc_calls.proofs.Durable.{edge, rows_to, edge_is, edges_apart, limited_same}
use Rattle.loc_store.specs.declared.Checked.{Checked}
use Rattle.loc_store.specs.Areas.{HoldHeaders, Checks}
use Rattle.loc_store.specs.Plans.{cut_past}
use Rattle.loc_store.proofs.RuleLaws.{first_last}
use Rattle.loc_store.proofs.SettledLaws.{accepted_sized, accepted_rows}

module _ (k : Kind) (a : Areas) (f : Checked) (e : Checks k a (Ok f)) where
  -- the published rows lie in the area
  pub rows_inside : f.ends.rows ≤ length a.rows
  rows_inside = omega (arith, e.found.ends.rows, counted_le a.rows)

  module _ (l : length a.rows < 2 ^ 64) (d : ℕ) where
    holds_16 : HoldHeaders a
    holds_16 = accepted_sized k a e.number

    whole : counted a.rows ≡ 16 + row_width k * fill (row_width k) a.rows
    whole = accepted_rows k a e.number

    -- on an edge below the published end the cut is that of loc_calls
    cut_there : d < counted a.rows → on_edge k d ≡ true → cut_past k a.slots a.rows (fill 2 a.slots) d ≡ cut_at k d a
    unfolding cut_past cut_at rows_before count
    cut_there h q =
        let at : d ≡ edge k (rows_to k d) = edge_is k d q in
        let before : rows_to k d < fill (row_width k) a.rows = edges_apart k (rows_to k d) (fill (row_width k) a.rows) (omega (arith, whole)) in
        rw (
          le-leb (d + row_width k) (length a.rows)
              (omega (arith, whole, counted_le a.rows, mul-suc (row_width k) (rows_to k d), mul-le-mul_left {m = suc (rows_to k d)} {n = fill (row_width k) a.rows} (row_width k) before)),
          first_last k a.rows (rows_to k d) (omega arith) holds_16.rows_hold l,
          ← at,
        ) refl

    limit_is : limited k d f.ends.rows f.count (cut_past k a.slots a.rows f.count d) ≡ withheld_limit k d a
    unfolding withheld_limit count
    limit_is = rw (e.found.ends.rows, e.found.count) (limited_same k d (counted a.rows) (fill 2 a.slots) _ _ cut_there)

    pub withheld_accepted : (v : ℕ) → v ≡ limited k d f.ends.rows f.count (cut_past k a.slots a.rows f.count d) → accepted_with v ≡ (withheld k d a).answer
    unfolding withheld answer
    withheld_accepted v q = rw (← e.number, ← limit_is, q) refl

pub withheld_refused : (k : Kind) (a : Areas) (d : ℕ) (x : Refusal) → number_of x ≡ first_refusal k a → refused_by (number_of x) ≡ (withheld k d a).answer
unfolding withheld
withheld_refused k a d x e = rw (← e, answer_refused (number_of x) _ (number_some x)) refl
