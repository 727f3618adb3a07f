use Rattle.std.proofs.Common.{[], drop, subst}
use Rattle.std.specs.List.{count_by, flat_map}
use Rattle.tx_model.specs.Rounds.{lines_in}
use Rattle.report_law.specs.Checkpoints.{is_checkpoint_of, ok_checkpoints}
use Rattle.checkpoint_rules.specs.Asked.{AreCountersOf}
use Rattle.checkpoint_rules.proofs.OwnRecord.{own_iff}
use Rattle.checkpoint_rules.proofs.answers.has_own_record.Goals as goal

pub returns-in-Some : goal.returns-in-Some
returns-in-Some c = λ j before kept told.
    let is = (subst (AreCountersOf j (flat_map lines_in before)) c.in-Some.is told).some in
    let counts = kept is.0 in
    own_iff j before c.in-Some.counters c.how_often-done.result c.how_often-recorded.result c.is_fewer.result is.0 is.1
    (c.how_often-done.ensures.counted (λ k. ok_checkpoints j k [] before) counts.done)
    (c.how_often-recorded.ensures.counted (λ k. count_by (is_checkpoint_of k) (drop 1 j.life.recs)) counts.recorded)
    c.is_fewer.ensures
