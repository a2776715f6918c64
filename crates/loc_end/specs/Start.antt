-- Where the list ends, as the code finds it.
-- Of an inner crate.
use Rattle.std.specs.Prelude.{ℕ, ◌+◌, ◌*◌, ◌≡◌, Result, IfOk}
use Rattle.loc_leaf.specs.declared.Kind.{Kind}
use Rattle.loc_leaf.specs.declared.Kind.TheVariants.{Paired, Single}
use Rattle.loc_leaf.specs.declared.refusal.Refusal.{Refusal}
use Rattle.loc_leaf.specs.Answers.{refuse, refusal_of}
use Rattle.loc_calls.specs.Areas.{Areas}
use Rattle.loc_calls.specs.Table.{saturated}
use Rattle.loc_calls.specs.Reading.{window_end, end_read}
use Rattle.loc_end.specs.declared.start.End.{End}

-- where the spans end, so many into window w, saturated; a single index has none
unfoldable pub span_to : Kind → Areas → ℕ → ℕ → ℕ
span_to Paired a w n = saturated (window_end Paired a 8 w + 8 * n)
span_to Single a w n = 16

-- 17, or both ends, saturated
pub record Ends (k : Kind) (a : Areas) (found : Result End Refusal) : Type 0 where
  pub number : refusal_of found ≡ refuse (end_read k a).unread 17
  pub ends : IfOk found (λ end. (end.body ≡ saturated (end_read k a).body) × (end.span ≡ saturated (end_read k a).span))
