use Rattle.history_check.proofs.Marks.{mark_at, mark_missing}
use Rattle.history_check.proofs.given.mark.Goals as goal

pub returns-in-Some : goal.returns-in-Some
returns-in-Some c = mark_at _ _ _ _ _ c.requires c.in-Some.ensures.some

pub returns-in-None : goal.returns-in-None
returns-in-None c = mark_missing _ _ _ c.in-None.ensures.none
