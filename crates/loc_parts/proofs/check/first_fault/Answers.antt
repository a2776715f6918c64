-- `loc_parts::check::first_fault` meets its contract.
-- The invariant is `Faults`: the first fault of the pairs so far, and the last of them.
use Rattle.std.proofs.Common.{refl, arith}
use Rattle.std.proofs.lemmas.List.{length_push}
use Rattle.std.proofs.lemmas.Slice.Zip.{zip_turn, zip_end}
use Rattle.loc_parts.proofs.FaultLaws.{faults_begin, faults_next, faults_end, least_first}
use Rattle.loc_parts.proofs.check.first_fault.Goals as goal

pub loop-c-init : goal.loop-c-init
loop-c-init c = faults_begin _ _ _

pub loop-c-preserved-in-Err : goal.loop-c-preserved-in-Err
loop-c-preserved-in-Err c =
    let t = zip_turn c.args.pairs.composites.now c.args.pairs.components.now c.loop-c.yielded c.into_iter-c-iterator.result _ c.next.new.self _ (cc) (cc) c.loop-c.yielded_by (c.in-Some.field-0-0, c.in-Some.field-0-1) c.in-Some.is c.next.ensures.steps in
    faults_next _ _ _ _ _ _ _ _ _ _ c.loop-c.invariant (t.0, t.2 0, t.3 0) (length_push c.loop-c.yielded (c.in-Some.field-0-0, c.in-Some.field-0-1)) _ c.in-Err.ensures _ c.least_fault-found.ensures

pub loop-c-preserved : goal.loop-c-preserved
loop-c-preserved c =
    let t = zip_turn c.args.pairs.composites.now c.args.pairs.components.now c.loop-c.yielded c.into_iter-c-iterator.result _ c.next.new.self _ (cc) (cc) c.loop-c.yielded_by (c.in-Some.field-0-0, c.in-Some.field-0-1) c.in-Some.is c.next.ensures.steps in
    faults_next _ _ _ _ _ _ _ _ _ _ c.loop-c.invariant (t.0, t.2 0, t.3 0) (length_push c.loop-c.yielded (c.in-Some.field-0-0, c.in-Some.field-0-1)) 0 c.in_default.ensures _ (least_first _ 0 refl)

pub returns : goal.returns
returns c =
    let t = zip_end c.args.pairs.composites.now c.args.pairs.components.now c.loop-c.yielded c.into_iter-c-iterator.result _ c.next.new.self _ (cc) (cc) c.loop-c.yielded_by c.in-None.is c.next.ensures.steps in
    faults_end _ _ _ _ _ _ _ c.loop-c.invariant (omega arith)
