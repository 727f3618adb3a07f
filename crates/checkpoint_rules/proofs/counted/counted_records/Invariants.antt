use Rattle.std.proofs.Common.{take}
use Rattle.std.specs.List.{count_by}
use Rattle.report_law.specs.Checkpoints.{is_checkpoint_of}
use Rattle.record_rules.specs.Counts.{AreCounted}
use Rattle.checkpoint_rules.proofs.counted.counted_records.Given as goal

abbrev pub invariant-loop-rec : goal.invariant-loop-rec
invariant-loop-rec l = AreCounted (λ k. count_by (is_checkpoint_of k) (take l.rec-index l.recs)) l.counts
