use Rattle.std.proofs.Common.{take}
use Rattle.history_places.specs.IdMarks.{AreNoted}
use Rattle.history_places.proofs.ids.noted_ids.Given as goal

abbrev pub invariant-loop-place : goal.invariant-loop-place
invariant-loop-place l = record {
  noted : AreNoted (take l.place l.events) l.marks.items;
}
