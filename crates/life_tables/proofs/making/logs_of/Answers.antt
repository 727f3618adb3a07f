use Rattle.std.proofs.Common.{◌≡◌, ◌-◌, List, take, sym, ap, subst, ◌∙◌}
use Rattle.std.specs.List.{count_by}
use Rattle.tx_events.specs.declared.record.Rec.{Rec}
use Rattle.tx_model.specs.declared.report.Life.{Life}
use Rattle.report_law.specs.Steps.{flushed_recs, is_truncation}
use Rattle.reply_rules.specs.Logs.{AreRecordedMultis}
use Rattle.report_law.specs.Tops.{AreTops}
use Rattle.life_tables.proofs.Logging.{take_most}
use Rattle.life_tables.proofs.making.logs_of.Goals as goal

pub returns : goal.returns
returns c = λ j is.
    let recs : c.items-recs.result.now ≡ c.args.life.now.recs = c.items-recs.ensures in
    let first : take c.min-flushed.result c.items-recs.result.now ≡ flushed_recs j.life =
    ap (λ n. take n c.items-recs.result.now) c.min-flushed.ensures
    ∙ take_most c.saturating_sub.result c.items-recs.result.now
    ∙ ap (λ n. take n c.items-recs.result.now) c.saturating_sub.ensures
    ∙ ap (λ (rs : List Rec). take (c.args.life.now.flushed - c.args.life.now.from) rs) recs
    ∙ ap (λ (l : Life). flushed_recs l) (sym is) in
    record {
      commits = subst (λ (rs : List Rec). AreTops rs c.in_ok-commit_tops.field-0) first c.in_ok-commit_tops.ensures;
      truncations = c.truncations.ensures ∙ ap (λ (rs : List Rec). count_by is_truncation rs) first;
      multis = subst (λ (rs : List Rec). AreRecordedMultis rs c.in_ok-recorded_multis.field-0) (recs ∙ ap (λ (l : Life). l.recs) (sym is)) c.in_ok-recorded_multis.ensures;
      stray = c.in_ok-is_any_stray.ensures j (ap (λ (l : Life). l.recs) is ∙ sym recs) (ap (λ (l : Life). l.multis) is ∙ sym c.items.ensures);
    }
