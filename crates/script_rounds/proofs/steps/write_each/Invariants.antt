use Rattle.std.proofs.Common.{◌≤◌, take}
use Rattle.std.specs.Io.KnownBytes.{Appends}
use Rattle.std.specs.List.{flat_map}
use Rattle.script_rounds.proofs.steps.write_each.Given as goal

abbrev pub invariant-loop-text : goal.invariant-loop-text
invariant-loop-text g l = record {
  later : g.K.Sink.faults l.fn.sink ≤ g.K.Sink.faults l.sink;
  told : Appends (g.K.Sink.held l.fn.sink) (g.K.Sink.held l.sink) (flat_map (λ text. text) (take l.text-index l.texts));
}
