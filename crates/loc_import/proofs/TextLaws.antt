-- A listing appended, by each way through the code: refused by 1 or 6, by its text, or appended.
-- What each way gives is said by the laws on listings of loc_parse.
use Prim.Native.Nat.{ℕ}
use mathlib.Core.Path.{◌≡◌, sym, ap, ◌∙◌}
use mathlib.Core.List.{List}
use Rattle.std.specs.Prelude.{Ok, Err}
use Rattle.loc_leaf.specs.declared.Kind.TheVariants.{Paired}
use Rattle.loc_leaf.specs.declared.refusal.Refusal.{Refusal}
use Rattle.loc_leaf.specs.Answers.{refused_by, number_of, Answer}
use Rattle.loc_leaf.proofs.Refusals.{or_else_first, number_some}
use Rattle.loc_calls.specs.Areas.{Areas, count}
use Rattle.loc_calls.specs.Table.{append, Batch}
use Rattle.loc_calls.specs.Calls.{first_refusal, call}
use Rattle.loc_calls.specs.Promises.{Stored}
use Rattle.loc_store.specs.declared.Checked.{Checked}
use Rattle.loc_store.specs.Areas.{Checks}
use Rattle.loc_parse.specs.Lines.{Parsed, parsed_as, parsed}
use Rattle.loc_parse.specs.Import.{listing_refusal, append_listing}
use Rattle.loc_parse.specs.Lists.{Filled}
use Rattle.loc_parse.proofs.ImportLaws.{listing_refused, listing_appended}

-- the areas a are read, and d are the same lent to be stored to
module _ (p : ℕ) (xs : List ℕ) (a d : Areas) (same : a ≡ d) where
  pub first_refused : (x : Refusal) → number_of x ≡ first_refusal Paired a → Stored (append_listing p xs d) (refused_by (number_of x)) d
  unfolding listing_refusal
  first_refused x e = rw (← same) (listing_refused p xs a (number_of x) (rw (← e) (or_else_first (number_of x) _ (number_some x))) (number_some x))

  module _ (f : Checked) (e : Checks Paired a (Ok f)) where
    text_is : (n : ℕ) (b : Batch) → parsed_as n b ≡ parsed f.count xs → parsed (count a) xs ≡ parsed_as n b
    unfolding count
    text_is n b q = ap (λ (i : ℕ). parsed i xs) (sym e.found.count) ∙ sym q

    text_number : (n : ℕ) (b : Batch) → parsed_as n b ≡ parsed f.count xs → listing_refusal xs a ≡ n
    unfolding listing_refusal
    text_number n b q = rw (← e.number) (ap (λ (t : Parsed). t.number) (text_is n b q))

    pub text_refused : (x : Refusal) (b : Batch) → Filled (parsed f.count xs) (Err x) b → Stored (append_listing p xs d) (refused_by (number_of x)) d
    text_refused x b o = rw (← same) (listing_refused p xs a (number_of x) (text_number _ b o.same) (number_some x))

    pub text_appended : (b c : Batch) → Filled (parsed f.count xs) (Ok tt) b → c ≡ b → (r : Answer) (y : Areas) → Stored (call Paired p (append c) d) r y
        → Stored (append_listing p xs d) r y
    text_appended b c o q r y s =
        rw (← same, listing_appended p xs a (text_number 0 b o.same), ap (λ (t : Parsed). t.batch) (text_is 0 b o.same), ← q) (rw (← same) at s)
