use Rattle.std.proofs.Common.{ap, sym}
use Rattle.history_check.proofs.Searching.{find_at, find_missing}
use Rattle.history_places.specs.declared.mark.IdMark.{IdMark}
use Rattle.history_places.specs.IdMarks.{closed_in}
use Rattle.history_places.proofs.ids.closed_of.Goals as goal

pub returns-in-Some : goal.returns-in-Some
returns-in-Some c = ap closed_in (sym (find_at (λ (m : IdMark). m.id) c.args.marks.now c.args.x c.in-Some.at c.index-marks-at.result c.requires c.in-Some.ensures.some))

pub returns-in-None : goal.returns-in-None
returns-in-None c = ap closed_in (sym (find_missing (λ (m : IdMark). m.id) c.args.marks.now c.args.x c.in-None.ensures.none))
