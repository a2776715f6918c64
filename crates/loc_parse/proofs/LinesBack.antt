-- Printed lines read back: the batch of their records.
-- The lines are those of a list of records with their places, numbered on from a number.
use Prim.Native.Nat.{ℕ, zero, suc, ◌+◌, ◌*◌, ◌^◌, ◌≤◌, ◌<◌}
use mathlib.Core.Path.{◌≡◌, refl, sym, ap, ◌∙◌}
use mathlib.Core.Bool.{true, false}
use mathlib.Core.List.{List, [], ◌∷◌, ◌++◌, map, append_assoc, append-nil}
use native.Mathlib.Numerals.{add-one}
use native.Mathlib.Omega.{arith}
use lib.Dec.{leb}
use lib.ListN.{length, length-append}
use borrow.Author.Tests.{le-leb, lt-leb, eq-eqb}
use Rattle.std.specs.Prelude.{Some}
use Rattle.loc_calls.specs.Table.{Entry, Batch, batch, batch_of}
use Rattle.loc_calls.specs.Calls.{unless_refused}
use Rattle.loc_listing.specs.Text.{decimal, line, names, begins}
use Rattle.loc_listing.specs.Listing.{entry_line, entry_lines}
use Rattle.loc_listing.proofs.NamesLaws.{names_long}
use Rattle.loc_parse.specs.declared.Fields.{Fields}
use Rattle.loc_parse.specs.Lines.{line_at, fields_refusal, parsed_as, added, if_whole, lines_from, empty, parsed}
use Rattle.loc_parse.proofs.LineBack.{line_back}

-- ---- the numbers of a record fit their widths

pub record Fit (e : Entry) : Type 0 where
  pub start : e.start < 2 ^ 64
  pub len : e.len < 2 ^ 64
  pub span_start : e.span_start < 2 ^ 64
  pub spans : e.spans < 2 ^ 32

unfoldable pub AllFit : List Entry → Type 0
AllFit [] = Unit
AllFit (e ∷ es) = Fit e × AllFit es

-- ---- one line

abbrev fields_of : ℕ → Entry → Fields
fields_of id e = record { number = id; start = e.start; len = e.len; span_start = e.span_start; span_len = 8 * e.spans; spans = e.spans }

fields_good : (id : ℕ) (e : Entry) → fields_refusal id (fields_of id e) ≡ 0
unfolding fields_refusal
fields_good id e = rw (eq-eqb id id refl, eq-eqb (8 * e.spans) (8 * e.spans) refl) refl

line_some : (id : ℕ) (e : Entry) → 0 < length (entry_line id e)
unfolding entry_line line
line_some id e = omega (arith, length-append (decimal id) (32 ∷ line (e.start ∷ e.len ∷ e.span_start ∷ 8 * e.spans ∷ e.spans ∷ [])))

-- ---- all lines

abbrev pub joined : Batch → List Entry → Batch
joined b es = batch (b.starts ++ map (λ (e : Entry). e.start) es) (b.lens ++ map (λ (e : Entry). e.len) es) (b.span_starts ++ map (λ (e : Entry). e.span_start) es) (b.span_counts ++ map (λ (e : Entry). e.spans) es)

joined_nil : (b : Batch) → b ≡ joined b []
joined_nil b = rw (append-nil b.starts, append-nil b.lens, append-nil b.span_starts, append-nil b.span_counts) refl

joined_cons : (b : Batch) (id : ℕ) (e : Entry) (es : List Entry) → joined (added b (fields_of id e)) es ≡ joined b (e ∷ es)
unfolding added
joined_cons b id e es = simp append_assoc

pub lines_back : (E : List Entry) (k m : ℕ) (xs zs : List ℕ) (b : Batch) → zs ≡ xs ++ entry_lines m E → length E ≤ k → m + length E < 2 ^ 64 → AllFit E
    → lines_from zs k (m + 1) (length xs) b ≡ parsed_as 0 (joined b E)
unfolding entry_lines AllFit lines_from if_whole unless_refused entry_line
lines_back [] k m xs zs b q h l f = none k
  where
    past : leb (length zs) (length xs) ≡ true
    past = le-leb (length zs) (length xs) (omega (arith, ap length q, length-append xs []))

    none : (k : ℕ) → lines_from zs k (m + 1) (length xs) b ≡ parsed_as 0 (joined b [])
    none zero = rw past (ap (parsed_as 0) (joined_nil b))
    none (suc k) = rw past (ap (parsed_as 0) (joined_nil b))
lines_back (e ∷ es) zero m xs zs b q h l f = absurd (omega arith)
lines_back (e ∷ es) (suc k) m xs zs b q h l f =
    rw (more, there, fields_good (m + 1) e)
    (lines_back es k (m + 1) (xs ++ entry_line (m + 1) e) zs (added b (fields_of (m + 1) e)) onward (omega arith) (omega arith) f.1
    ∙ ap (parsed_as 0) (joined_cons b (m + 1) e es))
  where
    whole : zs ≡ xs ++ (entry_line (m + 1) e ++ entry_lines (m + 1) es)
    whole = q ∙ rw (add-one m) refl

    more : leb (length zs) (length xs) ≡ false
    more =
        lt-leb (length zs) (length xs)
        (omega (arith, ap length whole, length-append xs (entry_line (m + 1) e ++ entry_lines (m + 1) es), length-append (entry_line (m + 1) e) (entry_lines (m + 1) es), line_some (m + 1) e))

    there : line_at zs (length xs) ≡ Some (fields_of (m + 1) e, length (xs ++ entry_line (m + 1) e))
    there =
        ap (λ (z : List ℕ). line_at z (length xs)) whole
        ∙ line_back (m + 1) e.start e.len e.span_start (8 * e.spans) e.spans xs (entry_lines (m + 1) es)
        (omega arith) f.0.start f.0.len f.0.span_start (omega (arith, f.0.spans)) f.0.spans

    onward : zs ≡ (xs ++ entry_line (m + 1) e) ++ entry_lines (m + 1) es
    onward = whole ∙ sym (append_assoc xs (entry_line (m + 1) e) (entry_lines (m + 1) es))

-- ---- a whole text

begins_own : (xs ys : List ℕ) → begins xs (xs ++ ys) ≡ true
unfolding begins
begins_own [] ys = refl
begins_own (x ∷ xs) ys = rw (eq-eqb x x refl) (begins_own xs ys)

-- the text of at most 1,024 records that follow m others
pub text_back : (E : List Entry) (m : ℕ) → length E ≤ 1024 → m + length E < 2 ^ 64 → AllFit E → parsed m (names ++ entry_lines m E) ≡ parsed_as 0 (batch_of E)
unfolding parsed
text_back E m h l f =
    rw (begins_own names (entry_lines m E))
    (ap (λ (p : ℕ). lines_from (names ++ entry_lines m E) 1024 (m + 1) p empty) (sym names_long)
    ∙ lines_back E 1024 m names (names ++ entry_lines m E) empty refl h l f)
