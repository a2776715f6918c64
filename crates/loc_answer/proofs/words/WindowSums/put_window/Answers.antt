-- `loc_answer::words::WindowSums::put_window` meets its contract.
use Rattle.std.proofs.Common.{length, refl, arith}
use Rattle.loc_calls.specs.Table.{word_width}
use Rattle.loc_answer.proofs.AnswerLaws.{place_below}
use Rattle.loc_answer.proofs.PutLaws.{run_more, run_summed, put_past, own_place, own_wanted_lem}
use Rattle.loc_answer.proofs.words.WindowSums.put_window.Goals as goal

pub put_words-requires : goal.put_words-requires
put_words-requires c =
    (run_summed _ _ _ _ _ _ _ _ c.requires.2 c.loop-p.p (omega arith) c.loop-p-test.true _ (own_wanted_lem c.args.wanted.now _ _ _ c.requires.0 c.loop-p-test.true refl), omega (arith, place_below (word_width c.args.kind) c.loop-p.p (length c.args.wanted.now) c.loop-p-test.true, c.requires.2.room))

pub loop-p-preserved : goal.loop-p-preserved
loop-p-preserved c =
    (run_more _ _ _ _ _ _ _ _ _ _ _ _ _ _ (omega arith) c.loop-p.invariant.0 (own_place _ _ c.requires.0 c.loop-p-test.true) refl c.put_words.ensures, put_past _ _ _ c.args.out.now _ _ _ c.loop-p-test.true c.loop-p.invariant.1 c.put_words.ensures)
