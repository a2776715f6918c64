-- Audit's answer in the form in which the code meets it, and what number 6 has tested of the areas.
-- Of an inner crate.
use Prim.Native.Nat.{ℕ}
use mathlib.Core.Path.{◌≡◌, refl}
use mathlib.Core.Bool.{Bool, true, false, cond}
use mir.Val.{bool_byte}
use Rattle.std.specs.Prelude.{Ok}
use Rattle.loc_leaf.specs.declared.Kind.{Kind}
use Rattle.loc_leaf.specs.declared.refusal.Refusal.{Refusal}
use Rattle.loc_leaf.specs.Answers.{accepted_with, refused_by, number_of, answer}
use Rattle.loc_leaf.proofs.Refusals.{number_some}
use Rattle.loc_calls.specs.Areas.{Areas, count}
use Rattle.loc_calls.specs.Audit.{sound}
use Rattle.loc_calls.specs.Calls.{first_refusal, audit}
use Rattle.loc_calls.proofs.Outcomes.{answer_refused}
use Rattle.loc_store.specs.declared.Checked.{Checked}
use Rattle.loc_store.specs.Areas.{Checks}
use Rattle.loc_store.proofs.SettledLaws.{accepted_ascends, accepted_checkpointed}
use Rattle.loc_audit.specs.Pass.{Auditable}

module _ (k : Kind) (a : Areas) where
  pub audit_refused : (x : Refusal) → number_of x ≡ first_refusal k a → refused_by (number_of x) ≡ (audit k a).answer
  unfolding audit
  audit_refused x e = rw (← e, answer_refused (number_of x) _ (number_some x)) refl

  module _ (f : Checked) (e : Checks k a (Ok f)) where
    pub audit_done : (b : Bool) → b ≡ sound k a → (v : ℕ) → v ≡ bool_byte b → accepted_with v ≡ (audit k a).answer
    unfolding audit answer
    audit_done b eb v ev = rw (← e.number, ← eb, ev, one b) refl
      where
        one : (x : Bool) → bool_byte x ≡ cond x 1 0
        one true = refl
        one false = refl

    -- number 6 has tested the order of the rows and the number of checkpoints
    pub auditable : Auditable k a
    unfolding count
    auditable = record { ascend = accepted_ascends k a e.number; checkpointed = accepted_checkpointed k a e.number }
