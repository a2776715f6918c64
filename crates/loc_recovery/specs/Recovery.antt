-- What a run of one history on lent areas and lists promises: the replies of the index, and where it is lawful the book's.
-- The reading's words are the answer buffer at return.
use Rattle.std.specs.Prelude.{ℕ, ◌≡◌, false, List, [], ◌∷◌, Result}
use Rattle.loc_leaf.specs.declared.Kind.{Kind}
use Rattle.loc_leaf.specs.declared.refusal.Refusal.{Refusal}
use Rattle.loc_leaf.specs.Answers.{answer_of}
use Rattle.loc_calls.specs.Areas.{Areas, sizes}
use Rattle.loc_calls.specs.Table.{Batch, opening, append, read}
use Rattle.loc_calls.specs.Calls.{create}
use Rattle.loc_history.specs.Book.{Reply}
use Rattle.loc_history.specs.History.{Event, finished, torn, index_replies, index_at_end, book_replies, Lawful, AllSized}
use Rattle.loc_recovery.specs.declared.Replies.{Replies}

-- after a creation: an append, another torn at its place s, an opening, a reading
abbrev pub history : Batch → Batch → ℕ → List ℕ → List ℕ → List Event
history b more s ids out = finished (append b) ∷ torn s (append more) ∷ finished opening ∷ finished (read ids out) ∷ []

-- what the finished calls replied
abbrev pub reply : Result ℕ Refusal → List ℕ → Reply
reply r out = record { answer = answer_of r; buffer = out }

abbrev pub replies : Replies → List ℕ → List Reply
replies r out = reply r.appended [] ∷ reply r.opened [] ∷ reply r.read out ∷ []

-- on any areas and lists the replies are the index's, and the areas are left as it leaves them;
-- where the areas are large enough and the history is lawful, the replies are the book's
pub record Recovered (k : Kind) (a : Areas) (es : List Event) (r : Replies) (out : List ℕ) (left : Areas) : Type 0 where
  pub index : replies r out ≡ index_replies k (create a).areas es
  pub areas : left ≡ index_at_end k (create a).areas es
  pub book : AllSized a → Lawful k (sizes a) false [] es → replies r out ≡ book_replies k (sizes a) [] es
