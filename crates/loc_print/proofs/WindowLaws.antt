-- One window put by its reading, and windows one after the other, in the form in which the code meets them.
-- The text so far is the lines of the records before; what is left is said by the windows from there on.
use Prim.Native.Nat.{ℕ, zero, suc, ◌+◌, ◌-◌, ◌*◌, ◌/◌, ◌^◌, ◌≤◌, ◌<◌, min}
use mathlib.Core.Path.{◌≡◌, refl, sym, ap, ◌∙◌, subst}
use mathlib.Core.List.{List, [], ◌++◌, append_assoc, append-nil}
use native.Mathlib.Nat.{add-zero, add-suc}
use native.Mathlib.Omega.{arith}
use lib.ListN.{length, take, drop}
use borrow.Author.Tests.{lt-ltb, le-ltb, le-leb, lt-leb}
use borrow.Rule.Slice.PartMut.{put_mid}
use Rattle.loc_leaf.specs.declared.Kind.TheVariants.{Paired}
use Rattle.loc_leaf.specs.Answers.{Answer}
use Rattle.loc_leaf.specs.Bytes.{Bytes}
use Rattle.loc_leaf.specs.Area.{fill}
use Rattle.loc_calls.specs.Areas.{Areas, areas, count}
use Rattle.loc_calls.specs.Table.{read, table}
use Rattle.loc_calls.specs.Reading.{words_for, answered}
use Rattle.loc_calls.specs.Calls.{unless_refused, unread, is_opening, first_refusal, refusal, buffer, call}
use Rattle.loc_calls.specs.Promises.{Read}
use Rattle.loc_calls.proofs.Outcomes.{refusal_after}
use Rattle.loc_calls.proofs.Refused.{number_is}
use Rattle.loc_listing.specs.Text.{names, refused_line, fits, names_text, window_text, refused_text, Put}
use Rattle.loc_listing.specs.Listing.{line_for, lines_after}
use Rattle.loc_listing.proofs.TextLaws.{put_then, put_nothing, put_part}
use Rattle.loc_print.specs.Printed.{numbers_after, window_refusal, window_lines, window_size, windows_from, window_count, printed, listing_text}
use Rattle.loc_print.proofs.ReadingLaws.{numbers_long, words_at, lines_of}

-- ---- one window

module _ (a : Areas) (m n : ℕ) (few : n ≤ 1024) (old : List ℕ) (room : 6 * n ≤ length old) where
  -- 15 and 16 do not come
  reading_refusal : refusal Paired (read (numbers_after m n) old) a ≡ window_refusal a m n
  unfolding window_refusal table unread is_opening
  reading_refusal =
      refusal_after Paired (read (numbers_after m n) old) a (first_refusal Paired a) refl refl
      ∙ rw (numbers_long m n, le-ltb 1024 n few, le-ltb (length old) (6 * n) room) refl

  module _ (ids : List ℕ) (e : ids ≡ numbers_after m n) (r : Answer) (ws : List ℕ) (h : Read (call Paired 0 (read ids old) a) r ws) where
    pub read_number : r.number ≡ window_refusal a m n
    unfolding call
    read_number = ap (λ (x : Answer). x.number) h.0 ∙ number_is (refusal Paired (read ids old) a) _ ∙ rw e reading_refusal

    read_words : r.number ≡ 0 → ws ≡ answered (words_for Paired a) (numbers_after m n) old
    unfolding call unless_refused buffer
    read_words z = h.1 ∙ rw (e, reading_refusal, ← read_number, z) refl

    pub window_read : r.number ≡ 0 → m + 1 + n < 2 ^ 64 → (out out₁ : List ℕ) (k : ℕ) → 126 * n ≤ length out → length ws ≡ length old
        → Put out 0 (window_text (m + 1) ws n (length out)) out₁ k × (k ≤ length out) × (k ≤ 126 * n) → Put out 0 (lines_after a m n) out₁ k × (k ≤ 126 * n)
    unfolding window_text fits
    window_read z last out out₁ k long same p = (subst (λ (t : List ℕ). Put out 0 t out₁ k) text p.0, p.2)
      where
        text : window_text (m + 1) ws n (length out) ≡ lines_after a m n
        text =
            rw (
              le-leb (126 * n) (length out) long,
              le-leb (6 * n) (length ws) (omega arith),
              lt-ltb (m + 1 + n) (2 ^ 64) last,
            ) (lines_of a m ws n (λ i h. rw (read_words z) (words_at a m n old i h)))

-- what is put of a window: its lines, or the line of its refusal

refused_old : (new old : List ℕ) (i : ℕ) → (i ≡ 0 → ⊥) → unless_refused i new old ≡ old
unfolding unless_refused
refused_old new old zero f = absurd (f refl)
refused_old new old (suc i) f = refl

lines_are : (a : Areas) (m n : ℕ) → window_refusal a m n ≡ 0 → window_lines a m n ≡ lines_after a m n
unfolding window_lines unless_refused
lines_are a m n z = rw z refl

module _ (a : Areas) (m n : ℕ) (out out₁ : List ℕ) (k : ℕ) where
  pub window_put : window_refusal a m n ≡ 0 → Put out 0 (lines_after a m n) out₁ k → Put out 0 (window_lines a m n) out₁ k
  window_put z w = rw (lines_are a m n z) w

  pub refusal_put : (i : ℕ) → i ≡ window_refusal a m n → (i ≡ 0 → ⊥) → 29 ≤ length out → Put out 0 (refused_text i (length out)) out₁ k → Put out 0 (window_lines a m n) out₁ k
  unfolding window_lines refused_text
  refusal_put i e f room w = rw (← e, refused_old (lines_after a m n) (refused_line i) i f) (rw (le-leb 29 (length out) room) at w)

-- ---- windows

pub lines_join : (a : Areas) (d n : ℕ) → lines_after a 0 (d + n) ≡ lines_after a 0 d ++ lines_after a d n
unfolding lines_after
lines_join a d zero = rw (add-zero d, append-nil) refl
lines_join a d (suc n) =
    ap (lines_after a 0) (add-suc d n)
    ∙ ap (λ (x : List ℕ). x ++ line_for a (0 + suc (d + n))) (lines_join a d n)
    ∙ append_assoc (lines_after a 0 d) (lines_after a d n) (line_for a (0 + suc (d + n)))
    ∙ ap (λ (i : ℕ). lines_after a 0 d ++ (lines_after a d n ++ line_for a i)) place
  where
    place : 0 + suc (d + n) ≡ d + suc n
    place = omega arith

-- the text of the first `done` records and of what is left is that of all windows
abbrev pub Left : Areas → ℕ → Type 0
Left a done = windows_from a 0 (window_count (count a)) ≡ lines_after a 0 done ++ windows_from a done (window_count (count a - done))

pub all_left : (a : Areas) → Left a 0
unfolding lines_after
all_left a =
    let none : count a - 0 ≡ count a = omega arith in
    rw none refl

pub no_lines : (a : Areas) (out : List ℕ) (at : ℕ) → Put out at (lines_after a 0 0) out at
unfolding lines_after
no_lines a out at = put_nothing out at

module _ (s r c : Bytes) (total : ℕ) (known : total ≡ fill 2 s) where
  abbrev whole : Areas
  whole = areas s r c

  module _ (done : ℕ) (more : done < total) (left : Left whole done) (n : ℕ) (size : n ≡ min (total - done) 1024) where
    one_more : window_count (count whole - done) ≡ suc (window_count (count whole - (done + n)))
    unfolding count
    one_more = rw (← known) (omega arith)

    size_is : window_size whole done ≡ n
    unfolding count
    size_is = rw (← known) (sym size)

    next : windows_from whole 0 (window_count (count whole))
        ≡ lines_after whole 0 done ++ (window_lines whole done n ++ unless_refused (window_refusal whole done n) (windows_from whole (done + n) (window_count (count whole - (done + n)))) [])
    unfolding windows_from
    next = left ∙ rw one_more (ap (λ (i : ℕ). lines_after whole 0 done ++ (window_lines whole done i ++ unless_refused (window_refusal whole done i) (windows_from whole (done + i) (window_count (count whole - (done + n)))) [])) size_is)

    module _ (z : window_refusal whole done n ≡ 0) where
      pub turn_left : Left whole (done + n)
      unfolding unless_refused
      turn_left =
          next
          ∙ rw (lines_are whole done n z, z) (sym (append_assoc (lines_after whole 0 done) (lines_after whole done n) (windows_from whole (done + n) (window_count (count whole - (done + n))))))
          ∙ ap (λ (x : List ℕ). x ++ windows_from whole (done + n) (window_count (count whole - (done + n)))) (sym (lines_join whole done n))

    module _ (out out₁ : List ℕ) (p at : ℕ) (sofar : Put out p (lines_after whole 0 done) out₁ at) (ys : List ℕ) (k : ℕ)
        (w : Put (take (length out₁ - at) (drop at out₁)) 0 (window_lines whole done n) ys k) where
      then_window : Put out p (lines_after whole 0 done ++ window_lines whole done n) (put_mid at (length out₁ - at) out₁ ys) (at + k)
      then_window = put_then _ _ sofar (put_part out₁ at (window_lines whole done n) ys k w)

      -- the last window: nothing is put after the line of its refusal
      pub turn_refused : (window_refusal whole done n ≡ 0 → ⊥) → Put out p (windows_from whole 0 (window_count (count whole))) (put_mid at (length out₁ - at) out₁ ys) (at + k)
      turn_refused f = subst (λ (x : List ℕ). Put out p x (put_mid at (length out₁ - at) out₁ ys) (at + k)) (sym (next ∙ ended)) then_window
        where
          ended : lines_after whole 0 done ++ (window_lines whole done n ++ unless_refused (window_refusal whole done n) (windows_from whole (done + n) (window_count (count whole - (done + n)))) [])
              ≡ lines_after whole 0 done ++ window_lines whole done n
          ended = rw (refused_old _ _ (window_refusal whole done n) f, append-nil) refl

      pub turn_put : window_refusal whole done n ≡ 0 → Put out p (lines_after whole 0 (done + n)) (put_mid at (length out₁ - at) out₁ ys) (at + k)
      turn_put z =
          subst (λ (x : List ℕ). Put out p x (put_mid at (length out₁ - at) out₁ ys) (at + k)) (sym (lines_join whole done n ∙ ap (λ (x : List ℕ). lines_after whole 0 done ++ x) (sym (lines_are whole done n z)))) then_window

  -- no window left
  nothing_left : (done : ℕ) → total ≤ done → Left whole done → windows_from whole 0 (window_count (count whole)) ≡ lines_after whole 0 done
  unfolding count windows_from
  nothing_left done h left =
      let none : (total - done + 1023) / 1024 ≡ 0 = omega arith in
      left ∙ rw (← known, none, append-nil) refl

  pub turns_done : (done : ℕ) → total ≤ done → Left whole done → (out out₁ : List ℕ) (p at : ℕ) → Put out p (lines_after whole 0 done) out₁ at
      → Put out p (windows_from whole 0 (window_count (count whole))) out₁ at
  turns_done done h left out out₁ p at f = subst (λ (x : List ℕ). Put out p x out₁ at) (sym (nothing_left done h left)) f

-- ---- a listing

module _ (s r c : Bytes) (out : List ℕ) where
  -- after the line of names
  pub names_then : 53 ≤ length out → (out₁ out₂ : List ℕ) (p at : ℕ) → Put out 0 (names_text (length out)) out₁ p
      → Put out₁ p (windows_from (areas s r c) 0 (window_count (count (areas s r c)))) out₂ at → Put out 0 (printed (areas s r c)) out₂ at
  unfolding names_text printed
  names_then h out₁ out₂ p at f g = put_then names (windows_from (areas s r c) 0 (window_count (count (areas s r c)))) (rw (le-leb 53 (length out) h) at f) g

  module _ (n : ℕ) (k : n ≡ fill 2 s) where
    pub listing_none : length out < 53 + 126 * n → Put out 0 (listing_text (areas s r c) (length out)) out 0 × (0 ≤ length out)
    unfolding listing_text count
    listing_none h = (rw (← k, lt-leb (53 + 126 * n) (length out) h) (put_nothing out 0), omega arith)

    pub listing_put : 53 + 126 * n ≤ length out → (out₁ : List ℕ) (i : ℕ) → Put out 0 (printed (areas s r c)) out₁ i × (i ≤ length out)
        → Put out 0 (listing_text (areas s r c) (length out)) out₁ i × (i ≤ length out)
    unfolding listing_text count
    listing_put h out₁ i p = (rw (← k, le-leb (53 + 126 * n) (length out) h) p.0, p.1)
