-- `loc_answer::words::WindowSums::put_run` meets its contract.
-- The invariant: the keys before t are answered.
use Rattle.loc_answer.specs.Words.{RunPut}
use Rattle.loc_answer.proofs.words.WindowSums.put_run.Given as goal

abbrev pub invariant-loop-t : goal.invariant-loop-t
invariant-loop-t l =
    RunPut l.kind l.wanted l.keys l.from l.t l.self.body_end l.self.span_end l.self.body.now l.self.span.now l.initial.out l.out
