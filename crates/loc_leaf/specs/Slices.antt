-- What one list puts over another: its first elements, as far as both reach.
-- The rest of the other stays.
use Rattle.std.specs.Prelude.{List, ◌++◌, length, min, take, drop}

unfoldable pub copied : {A : Type 0} → List A → List A → List A
copied xs ys = take (min (length xs) (length ys)) xs ++ drop (min (length xs) (length ys)) ys
