-- Strides, slots and the checkpoint rule (document 01, "delta_loc.rs, leaf part"; document 02, Item 3).
-- A slot is two bytes.
use Rattle.std.specs.Prelude.{ℕ, ◌+◌, ◌-◌, ◌*◌, ◌/◌, ◌%◌, ◌^◌, Bool, cond, not, ◌&&◌, ◌||◌, [], ◌∷◌, leb, ltb, eqb, take, drop}
use Rattle.loc_leaf.specs.declared.Kind.{Kind}
use Rattle.loc_leaf.specs.declared.Kind.TheVariants.{Paired, Single}
use Rattle.loc_leaf.specs.declared.Value.{Value}
use Rattle.loc_leaf.specs.Bytes.{Bytes, byte, bytes}
use Rattle.loc_leaf.specs.Answers.{refuse, ◌or_else◌, answer, Answer}

-- 22: length 0; 9: length no multiple of 8; 10: more than 2^32 − 1 strides
unfoldable pub strides_refusal : ℕ → ℕ
strides_refusal len = refuse (eqb len 0) 22 or_else refuse (not (eqb (len % 8) 0)) 9 or_else refuse (leb (2 ^ 32) (len / 8)) 10

-- length to strides: divide by 8
unfoldable pub strides_from : ℕ → Answer
strides_from len = answer (strides_refusal len) (len / 8)

-- a value of m or more is stored as 0
abbrev pub below : ℕ → ℕ → ℕ
below m v = cond (ltb v m) v 0

-- paired: byte of strides, byte of span count; single: strides in 16 bits
unfoldable pub slot : Kind → Value → Bytes
slot Paired v = below 256 v.strides ∷ below 256 v.spans ∷ []
slot Single v = bytes 2 (below 65536 v.strides)

-- a value is stored as 0, so that the record needs a row
unfoldable pub stored_as_zero : Kind → Value → Bool
stored_as_zero Paired v = leb 256 v.strides || leb 256 v.spans
stored_as_zero Single v = leb 65536 v.strides

-- paired: either byte is 0; single: the strides are stored as 0
unfoldable pub needs_row : Kind → Bytes → Bool
needs_row Paired s = eqb (byte 0 s) 0 || eqb (byte 1 s) 0
needs_row Single s = eqb (byte 0 s) 0 && eqb (byte 1 s) 0

-- what a slot says that needs no row
unfoldable pub inline : Kind → Bytes → Value
inline Paired s = record { strides = byte 0 s; spans = byte 1 s }
inline Single s = record { strides = byte 0 s + 256 * byte 1 s; spans = 0 }

-- record id's slot is at 16 + 2 × (id − 1)
unfoldable pub slot_at : Bytes → ℕ → Bytes
slot_at xs id = take 2 (drop (16 + 2 * (id - 1)) xs)

-- with n records and k whole checkpoints, k < n div 1,024 keeps (k + 1) × 1,024 − 1; otherwise n is kept
unfoldable pub checkpoint_rule : ℕ → ℕ → ℕ
checkpoint_rule n k = cond (ltb k (n / 1024)) ((k + 1) * 1024 - 1) n
