-- `loc_answer::words::WindowSums::put_window` meets its contract.
use Rattle.std.proofs.Common.{◌*◌, length}
use Rattle.loc_calls.specs.Table.{word_width}
use Rattle.loc_order.specs.Keys.{places_from}
use Rattle.loc_answer.specs.Words.{RunPut, SamePast}
use Rattle.loc_answer.proofs.words.WindowSums.put_window.Given as goal

abbrev pub invariant-loop-p : goal.invariant-loop-p
invariant-loop-p l = RunPut l.kind l.wanted (places_from 0 (length l.wanted)) 0 l.p l.self.body_end l.self.span_end l.self.body.now l.self.span.now l.initial.out l.out × SamePast (word_width l.kind * length l.wanted) l.initial.out l.out
