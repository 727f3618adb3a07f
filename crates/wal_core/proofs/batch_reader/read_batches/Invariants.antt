use Rattle.std.proofs.Common.{◌≡◌, ◌+◌, length, Option, None}
use Rattle.wal_core.specs.SoFar.{history_so_far, counters_so_far}
use Rattle.wal_core.specs.Opening.{opened_bytes, walk}
use Rattle.wal_core.specs.LastBatch.{Batch, last_of, last_in}
use Rattle.wal_core.specs.Checkpoint.{IsCheckpointIn}
use Rattle.wal_core.proofs.Scanning.{scanning}
use Rattle.wal_core.proofs.batch_reader.read_batches.Given as goal

abbrev pub invariant-loop-after : goal.invariant-loop-after
invariant-loop-after l = record {
  sum : l.at + length l.rest ≡ l.start + length l.bytes;
  so_far : scanning l.start (length l.rest + 1) l.at (history_so_far l.past) l.rest ≡ opened_bytes l.start l.bytes;
  begins : history_so_far l.past ≡ None → l.at ≡ l.start;
  last : (before : Option Batch) × ((last_of before l.at (walk (length l.rest + 1) l.rest).bodies ≡ last_in l.start l.bytes) × IsCheckpointIn before (counters_so_far (history_so_far l.past)) l.checkpoint);
}

abbrev pub decreases-loop-after : goal.decreases-loop-after
decreases-loop-after l = length l.rest
