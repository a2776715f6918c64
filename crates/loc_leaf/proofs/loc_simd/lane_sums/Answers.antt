-- `lane_sums` gives the running sums of a word's first bytes, each in its lane.
use Rattle.loc_leaf.proofs.Lanes.{take_1_fits, take_2_fits, running_word}
use Rattle.loc_leaf.proofs.loc_simd.lane_sums.Goals as goal

pub overflow_add-s : goal.overflow_add-s
overflow_add-s c = record { fits = take_1_fits c.args.w }

pub overflow_add-result : goal.overflow_add-result
overflow_add-result c = record { fits = take_2_fits c.args.w }

pub returns : goal.returns
returns c = running_word c.args.w
