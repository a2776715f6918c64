-- `entry::record_at` meets its contract.
use Rattle.loc_batch.proofs.EntryLaws.{in_starts, in_span_starts, in_span_counts}
use Rattle.loc_batch.proofs.entry.record_at.Goals as goal

pub bounds-b-i : goal.bounds-b-i
bounds-b-i c = in_starts _ _ _ c.requires

pub bounds-b-i-in-Paired-2 : goal.bounds-b-i-in-Paired-2
bounds-b-i-in-Paired-2 c = in_span_starts _ _ _ c.requires c.in-Paired.is

pub bounds-b-i-in-Paired-3 : goal.bounds-b-i-in-Paired-3
bounds-b-i-in-Paired-3 c = in_span_counts _ _ _ c.requires c.in-Paired.is

pub bounds-b-i-in-Single : goal.bounds-b-i-in-Single
bounds-b-i-in-Single c = in_starts _ _ _ c.requires
