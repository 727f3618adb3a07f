use Rattle.history_places.proofs.Closings.{Closing}
use Rattle.history_places.proofs.ids.id_marks.Given as goal

abbrev pub invariant-loop-at : goal.invariant-loop-at
invariant-loop-at l = record {
  closing : Closing l.replay.events l.initial.marks.items l.marks.items l.at;
}
