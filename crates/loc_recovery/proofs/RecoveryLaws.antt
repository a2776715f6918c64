-- Calls that keep their promises one after another run the history, so by demand 3 they reply as the book does.
-- One law for both kinds.
use Prim.Native.Nat.{ℕ, zero, suc}
use mathlib.Core.Path.{◌≡◌, refl, ◌∙◌}
use mathlib.Core.List.{List, []}
use Rattle.loc_leaf.specs.declared.Kind.{Kind}
use Rattle.loc_leaf.specs.declared.refusal.Refusal.{Refusal}
use Rattle.loc_leaf.specs.Answers.{answer_of}
use Rattle.std.specs.Prelude.{Result}
use Rattle.loc_calls.specs.Areas.{Areas}
use Rattle.loc_calls.specs.Table.{Batch, opening, append, read}
use Rattle.loc_calls.specs.Stores.{run}
use Rattle.loc_calls.specs.Calls.{unless_refused, refusal, lent, buffer, areas_after, call, create}
use Rattle.loc_calls.specs.Promises.{Stored, Read}
use Rattle.loc_history.specs.History.{Event, index_after, index_gives, index_replies, index_at_end, Demand3}
use Rattle.loc_history.proofs.History.{demand3}
use Rattle.loc_recovery.specs.declared.Replies.{Replies}
use Rattle.loc_recovery.specs.Recovery.{history, reply, replies, Recovered}

-- a call that answers no words
wordless : (n : ℕ) → unless_refused {A = List ℕ} n [] [] ≡ []
unfolding unless_refused
wordless zero = refl
wordless (suc n) = refl

-- and one that stores nothing
unmoved : (k : Kind) (ids out : List ℕ) (a : Areas) → a ≡ (call k 0 (read ids out) a).areas
unfolding call areas_after run unless_refused
unmoved k ids out a = go (refusal k (read ids out) a)
  where
    go : (n : ℕ) → a ≡ unless_refused n a a
    go zero = refl
    go (suc n) = refl

module _ (k : Kind) (a a₁ a₂ a₃ a₄ : Areas) (b more : Batch) (s : ℕ) (ids out out' : List ℕ) (r₀ r₁ r₂ r₃ r₄ : Result ℕ Refusal)
    (p₀ : Stored (create a) (answer_of r₀) a₁) (p₁ : Stored (call k 4 (append b) a₁) (answer_of r₁) a₂) (p₂ : Stored (call k s (append more) a₂) (answer_of r₂) a₃)
    (p₃ : Stored (call k 6 opening a₃) (answer_of r₃) a₄) (p₄ : Read (call k 0 (read ids out) a₄) (answer_of r₄) out') where
  abbrev es : List Event
  es = history b more s ids out

  abbrev rs : Replies
  rs = record { appended = r₁; opened = r₃; read = r₄ }

  appended_reply : reply r₁ [] ≡ record { answer = (call k 4 (append b) a₁).answer; buffer = (call k 4 (append b) a₁).buffer }
  unfolding call buffer lent
  appended_reply = rw (p₁.0, wordless (refusal k (append b) a₁)) refl

  opened_reply : reply r₃ [] ≡ record { answer = (call k 6 opening a₃).answer; buffer = (call k 6 opening a₃).buffer }
  unfolding call buffer lent
  opened_reply = rw (p₃.0, wordless (refusal k opening a₃)) refl

  read_reply : reply r₄ out' ≡ record { answer = (call k 0 (read ids out) a₄).answer; buffer = (call k 0 (read ids out) a₄).buffer }
  read_reply = rw (p₄.0, p₄.1) refl

  replies_are : replies rs out' ≡ index_replies k (create a).areas es
  unfolding index_replies index_gives index_after
  replies_are = rw (← p₀.1, ← p₁.1, ← p₂.1, ← p₃.1, appended_reply, opened_reply, read_reply) refl

  left_are : a₄ ≡ index_at_end k (create a).areas es
  unfolding index_at_end index_after
  left_are = rw (← p₀.1, ← p₁.1, ← p₂.1, ← p₃.1) (unmoved k ids out a₄)

  pub recovered : Recovered k a es rs out' a₄
  unfolding Demand3
  recovered = record { index = replies_are; areas = left_are; book = λ z lawful. replies_are ∙ demand3 k a z es lawful }
