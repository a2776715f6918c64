-- `loc_window::rows::word_at` meets its contract.
-- The word is spelled by eight bytes, each below 256.
use Rattle.loc_window.proofs.BlockLaws.{word_bytes}
use Rattle.loc_window.proofs.rows.word_at.Goals as goal

pub returns : goal.returns
returns c = word_bytes _ _ _ _ c.requires (λ u. (c.type_inv.s u).fits) c.array_at.ensures c.from_le_bytes.ensures
