-- A listing appended to a paired index (document 02, Item 1): 1, 6, then 18 to 20 of its text, then the append of the batch that the text says.
-- A refusal leaves everything as it was.
use Rattle.std.specs.Prelude.{ℕ, List, []}
use Rattle.loc_leaf.specs.declared.Kind.TheVariants.{Paired}
use Rattle.loc_leaf.specs.Answers.{◌or_else◌, answer}
use Rattle.loc_calls.specs.Areas.{Areas, count}
use Rattle.loc_calls.specs.Table.{append}
use Rattle.loc_calls.specs.Calls.{Outcome, unless_refused, first_refusal, call}
use Rattle.loc_parse.specs.Lines.{parsed}

unfoldable pub listing_refusal : List ℕ → Areas → ℕ
listing_refusal xs a = first_refusal Paired a or_else (parsed (count a) xs).number

-- with the stores of the first s places of that append
unfoldable pub append_listing : ℕ → List ℕ → Areas → Outcome
append_listing s xs a =
    unless_refused (listing_refusal xs a) (call Paired s (append (parsed (count a) xs).batch) a)
    (record { answer = answer (listing_refusal xs a) 0; buffer = []; areas = a })
