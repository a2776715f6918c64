-- Where a window has its span t: the part of its records that is left, and the record in the end.
-- Of an inner crate; loc_calls says what the call answers.
use Rattle.std.specs.Prelude.{ℕ, suc, ◌+◌, ◌^◌, ◌≤◌, ◌<◌, ◌≡◌, true, List, get_or}
use Rattle.loc_leaf.specs.declared.Kind.TheVariants.{Paired}
use Rattle.loc_calls.specs.Areas.{Areas}
use Rattle.loc_calls.specs.Reading.{value_at, complete, spans_after}
use Rattle.loc_whole.specs.Totals.{Walkable}
use Rattle.loc_span_at.specs.declared.Part.{Part}
use Rattle.loc_span_at.specs.declared.Span.{Span}

abbrev pub part_of : ℕ → ℕ → ℕ → ℕ → Part
part_of base m row before = record { base = base; m = m; row = row; before = before }

-- the part can be walked, and span t is one of its own
pub record Holding (a : Areas) (nr t : ℕ) (p : Part) : Type 0 where
  pub ready : Walkable a.slots a.rows nr p.base p.m p.row
  pub known : complete Paired a p.base p.m ≡ true
  pub fits : t < 2 ^ 61
  pub low : p.before ≤ t
  pub high : t < p.before + spans_after Paired a p.base p.m

-- q is a part of p, `place` records further on
pub record Inside (a : Areas) (p q : Part) : Type 0 where
  pub place : ℕ
  pub is_first : q.base ≡ p.base + place
  pub fits : place + q.m ≤ p.m
  pub is_before : q.before ≡ p.before + spans_after Paired a p.base place

-- a smaller part that still has the span
pub record Halved (a : Areas) (nr t : ℕ) (p q : Part) : Type 0 where
  pub holding : Holding a nr t q
  pub inside : Inside a p q
  pub less : q.m < p.m

-- k is the first place of m whose next sum is above t, or m
pub record FirstAbove (sums : List ℕ) (m t k : ℕ) : Type 0 where
  pub inside : k ≤ m
  pub below : (j : ℕ) → j < k → get_or sums (j + 1) 0 ≤ t
  pub above : k < m → t < get_or sums (k + 1) 0

-- of the m records that follow record f, with `before` spans before them, r names the one that has span t, and t's index in it
pub record Crossed (a : Areas) (f m before t : ℕ) (r : Span) : Type 0 where
  pub place : ℕ
  pub inside : place < m
  pub is_record : r.«record» ≡ f + suc place
  pub is_span : t ≡ before + spans_after Paired a f place + r.index
  pub own : r.index < (value_at Paired a (f + suc place)).spans
