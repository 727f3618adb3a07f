use Rattle.std.proofs.Common.{[], ◌∷◌, ◌++◌, ◌∙◌, ap, sym, subst}
use Rattle.std.proofs.lemmas.Result.{on_ok_weaker}
use Rattle.std.specs.List.{count_by}
use Rattle.tx_events.specs.declared.record.Rec.{Rec}
use Rattle.tx_events.specs.declared.record.Rec.TheVariants as records
use Rattle.report_law.specs.Checkpoints.{is_checkpoint_of}
use Rattle.record_rules.specs.Counts.{AreCounted}
use Rattle.checkpoint_rules.proofs.Stepping.{checkpoint_record}
use Rattle.checkpoint_rules.proofs.counted.count_record.Goals as goal

pub returns-in-Checkpoint : goal.returns-in-Checkpoint
returns-in-Checkpoint c =
    on_ok_weaker c.count_one.result
    (λ f recs counted.
    subst (λ (r : Rec). AreCounted (λ k. count_by (is_checkpoint_of k) (recs ++ r ∷ [])) c.count_one.new.counts) (sym (c.in-Checkpoint.is ∙ ap (records.Checkpoint c.in-Checkpoint.number) (sym c.get.ensures)))
    (checkpoint_record recs c.in-Checkpoint.number c.get.result.now c.count_one.new.counts (f (λ k. count_by (is_checkpoint_of k) recs) counted)))
    c.count_one.ensures
