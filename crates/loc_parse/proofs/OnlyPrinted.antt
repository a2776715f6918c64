-- A text that is accepted is a printed one: the line of names, and the lines of the records of its batch.
-- Their numbers fit, and there are at most 1,024 of them.
use Prim.Native.Nat.{ℕ, zero, suc, ◌+◌, ◌-◌, ◌*◌, ◌^◌, ◌≤◌, ◌<◌}
use mathlib.Core.Path.{◌≡◌, refl, sym, ap, ◌∙◌}
use mathlib.Core.Bool.{Bool, true, false, cond, not}
use mathlib.Core.List.{List, [], ◌∷◌, ◌++◌, append_assoc, append-nil}
use native.Mathlib.Numerals.{add-one}
use native.Mathlib.Omega.{arith}
use lib.Dec.{leb, eqb}
use lib.ListN.{length, drop, drop_of_length-le}
use borrow.Author.Tests.{leb-true, eqb-true, not-false}
use Rattle.std.specs.Prelude.{Some, None}
use Rattle.std.proofs.lemmas.Option.{some_pair_parts}
use Rattle.loc_leaf.specs.Answers.{refuse}
use Rattle.loc_leaf.proofs.Booleans.{both_left, both_right}
use Rattle.loc_leaf.proofs.Refusals.{or_else_left, or_else_right, refuse_zero}
use Rattle.loc_calls.specs.Table.{Entry, Batch, batch_of}
use Rattle.loc_calls.specs.Calls.{unless_refused}
use Rattle.loc_listing.specs.Text.{decimal, line, names, begins}
use Rattle.loc_listing.specs.Listing.{entry_line, entry_lines}
use Rattle.loc_listing.proofs.NamesLaws.{names_long}
use Rattle.loc_parse.specs.declared.Fields.{Fields}
use Rattle.loc_parse.specs.Lines.{Line, line_at, fields_refusal, Parsed, parsed_as, added, if_whole, lines_from, empty, parsed}
use Rattle.loc_parse.proofs.FieldLaws.{field}
use Rattle.loc_parse.proofs.LinesBack.{AllFit, joined}

-- ---- a line

record LineIs (xs : List ℕ) (at : ℕ) (t : Fields) (next : ℕ) : Type 0 where
  text : drop at xs ≡ line (t.number ∷ t.start ∷ t.len ∷ t.span_start ∷ t.span_len ∷ t.spans ∷ []) ++ drop next xs
  start : t.start < 2 ^ 64
  len : t.len < 2 ^ 64
  span_start : t.span_start < 2 ^ 64
  spans : t.spans < 2 ^ 32

line_is : (xs : List ℕ) (at : ℕ) (t : Fields) (next : ℕ) → line_at xs at ≡ Some (t, next) → LineIs xs at t next
unfolding line_at
line_is xs at t next q =
    field (2 ^ 64 - 1) 32 (omega arith) xs at _ t next q λ a p₁ ta sa _ q₁.
    field (2 ^ 64 - 1) 32 (omega arith) xs p₁ _ t next q₁ λ b p₂ tb sb _ q₂.
    field (2 ^ 64 - 1) 32 (omega arith) xs p₂ _ t next q₂ λ c p₃ tc sc _ q₃.
    field (2 ^ 64 - 1) 32 (omega arith) xs p₃ _ t next q₃ λ d p₄ td sd _ q₄.
    field (2 ^ 64 - 1) 32 (omega arith) xs p₄ _ t next q₄ λ e p₅ te se _ q₅.
    field (2 ^ 32 - 1) 10 (omega arith) xs p₅ _ t next q₅ λ f p₆ tf sf _ q₆.
    whole a b c d e f p₆ (omega arith) (omega arith) (omega arith) (omega arith) (ta ∙ rw (tb, tc, td, te, tf) refl) q₆
  where
    whole : (a b c d e f p : ℕ) → b < 2 ^ 64 → c < 2 ^ 64 → d < 2 ^ 64 → f < 2 ^ 32
        → drop at xs ≡ decimal a ++ (32 ∷ (decimal b ++ (32 ∷ (decimal c ++ (32 ∷ (decimal d ++ (32 ∷ (decimal e ++ (32 ∷ (decimal f ++ (10 ∷ drop p xs)))))))))))
        → ◌≡◌ {A = Line} (Some (record { number = a; start = b; len = c; span_start = d; span_len = e; spans = f }, p)) (Some (t, next)) → LineIs xs at t next
    whole a b c d e f p hb hc hd hf text q =
        let same = some_pair_parts (record { number = a; start = b; len = c; span_start = d; span_len = e; spans = f }) t p next q in
        rw (← same.0, ← same.1) (record { text = text ∙ unfold line in simp append_assoc; start = hb; len = hc; span_start = hd; spans = hf })

-- ---- 19 and 20 leave the number wanted and the length of the spans

right_number : (id : ℕ) (t : Fields) → fields_refusal id t ≡ 0 → t.number ≡ id
unfolding fields_refusal
right_number id t e =
    eqb-true t.number id (not-false (eqb t.number id) (refuse_zero (not (eqb t.number id)) 18 (or_else_left (refuse (not (eqb t.number id)) 19) (refuse (not (eqb t.span_len (8 * t.spans))) 20) e)))

right_length : (id : ℕ) (t : Fields) → fields_refusal id t ≡ 0 → t.span_len ≡ 8 * t.spans
unfolding fields_refusal
right_length id t e =
    eqb-true t.span_len (8 * t.spans) (not-false (eqb t.span_len (8 * t.spans)) (refuse_zero (not (eqb t.span_len (8 * t.spans))) 19 (or_else_right (refuse (not (eqb t.number id)) 19) (refuse (not (eqb t.span_len (8 * t.spans))) 20) e)))

-- ---- lines

-- the bytes from a place on are the lines of a list that follows k others; c is the batch b with its records
pub record LinesAre (xs : List ℕ) (m k at : ℕ) (b c : Batch) : Type 0 where
  pub E : List Entry
  pub text : drop at xs ≡ entry_lines k E
  pub batch : c ≡ joined b E
  pub fit : AllFit E
  pub few : length E ≤ m

same_number : (n m : ℕ) (b c : Batch) → parsed_as n b ≡ parsed_as m c → n ≡ m
same_number n m b c e = ap (λ (p : Parsed). p.number) e

lines_done : (xs : List ℕ) (m k at : ℕ) (b c : Batch) → length xs ≤ at → parsed_as 0 b ≡ parsed_as 0 c → LinesAre xs m k at b c
unfolding entry_lines AllFit
lines_done xs m k at b c h e = record {
  E = [];
  text = drop_of_length-le xs h;
  batch = sym (ap (λ (p : Parsed). p.batch) e) ∙ rw (append-nil b.starts, append-nil b.lens, append-nil b.span_starts, append-nil b.span_counts) refl;
  fit = tt;
  few = omega arith;
}

lines_one : (xs : List ℕ) (m k at next : ℕ) (b c : Batch) (t : Fields) → LineIs xs at t next → fields_refusal (k + 1) t ≡ 0 → LinesAre xs m (k + 1) next (added b t) c → LinesAre xs (suc m) k at b c
unfolding entry_lines AllFit entry_line added
lines_one xs m k at next b c t l r o = record {
  E = record { start = t.start; len = t.len; span_start = t.span_start; spans = t.spans } ∷ o.E;
  text =
      l.text
      ∙ ap (λ (n : ℕ). line (n ∷ t.start ∷ t.len ∷ t.span_start ∷ t.span_len ∷ t.spans ∷ []) ++ drop next xs) (right_number (k + 1) t r ∙ add-one k)
      ∙ ap (λ (n : ℕ). line (suc k ∷ t.start ∷ t.len ∷ t.span_start ∷ n ∷ t.spans ∷ []) ++ drop next xs) (right_length (k + 1) t r)
      ∙ ap (λ (r : List ℕ). line (suc k ∷ t.start ∷ t.len ∷ t.span_start ∷ 8 * t.spans ∷ t.spans ∷ []) ++ r) (o.text ∙ ap (λ (i : ℕ). entry_lines i o.E) (add-one k));
  batch = o.batch ∙ simp append_assoc;
  fit = (record { start = l.start; len = l.len; span_start = l.span_start; spans = l.spans }, o.fit);
  few = omega (arith, o.few);
}

lines_are : (m : ℕ) (xs : List ℕ) (k at : ℕ) (b c : Batch) → lines_from xs m (k + 1) at b ≡ parsed_as 0 c → LinesAre xs m k at b c
unfolding lines_from
lines_are zero xs k at b c e = go (leb (length xs) at) refl e
  where
    go : (s : Bool) → leb (length xs) at ≡ s → cond s (parsed_as 0 b) (parsed_as 18 b) ≡ parsed_as 0 c → LinesAre xs zero k at b c
    go true q w = lines_done xs zero k at b c (leb-true (length xs) at q) w
    go false q w = absurd (let z : ◌≡◌ {A = ℕ} 18 0 = same_number 18 0 b c w in omega arith)
lines_are (suc m) xs k at b c e = go (leb (length xs) at) refl (line_at xs at) refl e (λ t next. lines_are m xs (k + 1) next (added b t) c)
  where
    refused : (n : ℕ) (t : Fields) (next : ℕ) → fields_refusal (k + 1) t ≡ n → line_at xs at ≡ Some (t, next) → unless_refused n (lines_from xs m (k + 1 + 1) next (added b t)) (parsed_as n b) ≡ parsed_as 0 c
        → (lines_from xs m (k + 1 + 1) next (added b t) ≡ parsed_as 0 c → LinesAre xs m (k + 1) next (added b t) c) → LinesAre xs (suc m) k at b c
    refused zero t next r l w more = lines_one xs m k at next b c t (line_is xs at t next l) r (more (unfold unless_refused in w))
    refused (suc n) t next r l w more = absurd (let z : ◌≡◌ {A = ℕ} (suc n) 0 = unfold unless_refused in same_number (suc n) 0 b c w in omega arith)

    go : (s : Bool) → leb (length xs) at ≡ s → (l : Line) → line_at xs at ≡ l
        → cond s (parsed_as 0 b) (if_whole l (λ f next. unless_refused (fields_refusal (k + 1) f) (lines_from xs m (k + 1 + 1) next (added b f)) (parsed_as (fields_refusal (k + 1) f) b)) (parsed_as 18 b)) ≡ parsed_as 0 c
        → ((t : Fields) (next : ℕ) → lines_from xs m (k + 1 + 1) next (added b t) ≡ parsed_as 0 c → LinesAre xs m (k + 1) next (added b t) c)
        → LinesAre xs (suc m) k at b c
    go true q l p w more = lines_done xs (suc m) k at b c (leb-true (length xs) at q) w
    go false q None p w more = absurd (let z : ◌≡◌ {A = ℕ} 18 0 = unfold if_whole in same_number 18 0 b c w in omega arith)
    go false q (Some (t, next)) p w more = refused (fields_refusal (k + 1) t) t next refl p (unfold if_whole in w) (more t next)

-- ---- a text

begins_drop : (ns xs : List ℕ) → begins ns xs ≡ true → xs ≡ ns ++ drop (length ns) xs
unfolding begins
begins_drop [] xs e = refl
begins_drop (n ∷ ns) [] e = absurd (let z : ◌≡◌ {A = Bool} false true = e in false_true z)
  where
    false_true : false ≡ true → ⊥
    false_true z = let y : ◌≡◌ {A = ℕ} 0 1 = cc in omega arith
begins_drop (n ∷ ns) (x ∷ xs) e =
    ap (λ (y : ℕ). y ∷ xs) (sym (eqb-true n x (both_left (eqb n x) (begins ns xs) e)))
    ∙ ap (λ (l : List ℕ). n ∷ l) (begins_drop ns xs (both_right (eqb n x) (begins ns xs) e))

-- the records of an accepted text for an index of n
pub record Printed (n : ℕ) (xs : List ℕ) (c : Batch) : Type 0 where
  pub E : List Entry
  pub text : xs ≡ names ++ entry_lines n E
  pub batch : c ≡ batch_of E
  pub fit : AllFit E
  pub few : length E ≤ 1024

pub only_printed : (n : ℕ) (xs : List ℕ) (c : Batch) → parsed n xs ≡ parsed_as 0 c → Printed n xs c
unfolding parsed
only_printed n xs c e = go (begins names xs) refl e
  where
    go : (s : Bool) → begins names xs ≡ s → cond s (lines_from xs 1024 (n + 1) 53 empty) (parsed_as 18 empty) ≡ parsed_as 0 c → Printed n xs c
    go false q w = absurd (let z : ◌≡◌ {A = ℕ} 18 0 = same_number 18 0 empty c w in omega arith)
    go true q w =
        let o : LinesAre xs 1024 n 53 empty c = lines_are 1024 xs n 53 empty c w in
        record {
          E = o.E;
          text = begins_drop names xs q ∙ ap (λ (i : ℕ). names ++ drop i xs) names_long ∙ ap (λ (r : List ℕ). names ++ r) o.text;
          batch = o.batch;
          fit = o.fit;
          few = o.few;
        }
