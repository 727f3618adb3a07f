use Rattle.std.proofs.Common.{◌≤◌, ◌+◌, drop, length}
use Rattle.report_read.proofs.Reading.{ReadSoFar}
use Rattle.report_read.proofs.read.read_report.Given as goal

abbrev pub invariant-loop-line : goal.invariant-loop-line
invariant-loop-line l = record {
  so_far : ReadSoFar l.bytes l.told (drop 1 l.rest) l.count;
  some : 1 ≤ length l.rest;
  room : l.count + length l.rest ≤ length l.bytes;
}

abbrev pub decreases-loop-line : goal.decreases-loop-line
decreases-loop-line l = length l.rest
