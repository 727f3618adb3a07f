use Rattle.std.proofs.Common.{◌≡◌, ◌≤◌, ◌++◌, ℕ, List, drop, length}
use Rattle.std.specs.Io.KnownBytes.{Appends}
use Rattle.script_rounds.specs.Woven.{own_before, pieces_in, woven}
use Rattle.script_rounds.proofs.woven.write_woven.Given as goal

abbrev pub invariant-loop-run : goal.invariant-loop-run
invariant-loop-run g l = record {
  within : own_before (pieces_in (drop l.run-index l.runs)) ≤ length l.rest;
  later : g.K.Sink.faults l.fn.sink ≤ g.K.Sink.faults l.sink;
  told : (written : List ℕ) × (written ++ l.kept.items ++ woven (pieces_in (drop l.run-index l.runs)) l.rest ≡ woven (pieces_in l.runs) l.own)
      × Appends (g.K.Sink.held l.fn.sink) (g.K.Sink.held l.sink) written;
}
