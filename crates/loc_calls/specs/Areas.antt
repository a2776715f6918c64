-- The three areas of an index (document 01, "file.rs, length only").
-- A Three is one thing for each of them.
use Rattle.std.specs.Prelude.{ℕ, Bool, ◌||◌, length}
use Rattle.loc_leaf.specs.Bytes.{Bytes}
use Rattle.loc_leaf.specs.Area.{fill}

-- slots, rows, checkpoints
pub record Three (A : Type 0) : Type 0 where
  pub slots : A
  pub rows : A
  pub checkpoints : A

abbrev pub each : {A B : Type 0} → (A → B) → Three A → Three B
each f x = record { slots = f x.slots; rows = f x.rows; checkpoints = f x.checkpoints }

abbrev pub each₂ : {A B C : Type 0} → (A → B → C) → Three A → Three B → Three C
each₂ f x y =
    record { slots = f x.slots y.slots; rows = f x.rows y.rows; checkpoints = f x.checkpoints y.checkpoints }

abbrev pub some : Three Bool → Bool
some x = x.slots || x.rows || x.checkpoints

abbrev pub Areas : Type 0
Areas = Three Bytes

-- three lent lists of bytes as the areas
abbrev pub areas : Bytes → Bytes → Bytes → Areas
areas s r c = record { slots = s; rows = r; checkpoints = c }

unfoldable pub sizes : Areas → Three ℕ
sizes a = each length a

-- how many records are published: a slot is two bytes
unfoldable pub count : Areas → ℕ
count a = fill 2 a.slots
