-- `loc_load::input::read_request` meets its contract.
use mathlib.Core.Path.{◌≡◌}
use native.Mathlib.Omega.{arith}
use Rattle.std.proofs.lemmas.Result.{err_from_is_err_and}
use Rattle.loc_leaf.specs.declared.refusal.Refusal.TheVariants.{ListingMalformed}
use Rattle.loc_load.proofs.RequestLaws.{no_seed, no_records, more_bytes, seed_0, too_many, asked}
use Rattle.loc_load.proofs.input.read_request.Goals as goal

pub returns-in_err-seed : goal.returns-in_err-seed
returns-in_err-seed c =
    let p = err_from_is_err_and c.from_residual.result c.from_residual.ensures.1 in
    let malformed : c.in_err-seed.field-0.0 ≡ ListingMalformed = grind arith in
    rw (p.1, p.2, malformed) (no_seed _ (grind arith))

pub returns-in_err-records : goal.returns-in_err-records
returns-in_err-records c =
    let p = err_from_is_err_and c.from_residual-in_err-records.result c.from_residual-in_err-records.ensures.1 in
    let malformed : c.in_err-records.field-0.0 ≡ ListingMalformed = grind arith in
    rw (p.1, p.2, malformed) (no_records _ c.in_ok-seed.seed c.in_ok-seed.at (grind arith) (grind arith))

pub returns-then-end-input : goal.returns-then-end-input
returns-then-end-input c = more_bytes _ c.in_ok-seed.seed c.in_ok-seed.at (grind arith) c.in_ok-records.records c.in_ok-records.end (grind arith) (λ z. omega arith)

pub returns-then-seed-eq0 : goal.returns-then-seed-eq0
returns-then-seed-eq0 c = seed_0 _ c.in_ok-seed.seed c.in_ok-seed.at (grind arith) c.in_ok-records.records c.in_ok-records.end (grind arith) (omega arith) (omega arith)

pub returns-then-records-gt1024 : goal.returns-then-records-gt1024
returns-then-records-gt1024 c = too_many _ c.in_ok-seed.seed c.in_ok-seed.at (grind arith) c.in_ok-records.records c.in_ok-records.end (grind arith) (omega arith) (λ z. omega arith) (omega arith)

pub returns : goal.returns
returns c = asked _ c.in_ok-seed.seed c.in_ok-seed.at (grind arith) c.in_ok-records.records c.in_ok-records.end (grind arith) (omega arith) (λ z. omega arith) (omega arith)
