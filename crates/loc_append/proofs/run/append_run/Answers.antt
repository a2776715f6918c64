-- `run::append_run` meets its contract.
-- A refusal by 1 or 6 leaves the areas.
use mathlib.Core.Path.{refl}
use Rattle.std.proofs.lemmas.Result.{err_from_is_err_and}
use Rattle.loc_append.proofs.RunLaws.{append_refused}
use Rattle.loc_append.proofs.run.append_run.Goals as goal

pub returns-in_err-found : goal.returns-in_err-found
returns-in_err-found c =
    let p = err_from_is_err_and c.from_residual.result c.from_residual.ensures.1 in
    rw (p.1, p.2) (append_refused _ _ _ _ _ c.shared.ensures _ c.in_err-found.ensures.number, (refl, refl, refl))
