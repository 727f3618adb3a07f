-- The record of a checkpoint that was answered `ok`.
use Rattle.std.proofs.Common.{◌≡◌, ◌↔◌, ℕ, ◌<◌, Bool, IsTrue, List, [], drop, subst}
use Rattle.std.specs.List.{count_by, flat_map}
use Rattle.tx_events.specs.declared.record.Counters.{Counters}
use Rattle.tx_model.specs.declared.report.Step.{Step}
use Rattle.tx_model.specs.Rounds.{lines_in}
use Rattle.report_law.specs.Checkpoints.{counters_behind, is_checkpoint_of, ok_checkpoints}
use Rattle.report_law.specs.Steps.{AreJudged, Judged}

pub own_iff : (j : Judged) (before : List Step) (x : Counters) (done recorded : ℕ) (r : Bool) → AreJudged j (flat_map lines_in before) [] → x ≡ counters_behind j (flat_map lines_in before) → done ≡ ok_checkpoints j x [] before → recorded ≡ count_by (is_checkpoint_of x) (drop 1 j.life.recs) → IsTrue r ↔ (done < recorded)
    → IsTrue r ↔ (AreJudged j (flat_map lines_in before) [] → ok_checkpoints j (counters_behind j (flat_map lines_in before)) [] before < count_by (is_checkpoint_of (counters_behind j (flat_map lines_in before))) (drop 1 j.life.recs))
own_iff j before x done recorded r judged is d n iff =
    let a = subst (λ k. IsTrue r ↔ (k < recorded)) d iff in
    let b = subst (λ k. IsTrue r ↔ (ok_checkpoints j x [] before < k)) n a in
    let c = subst (λ (y : Counters). IsTrue r ↔ (ok_checkpoints j y [] before < count_by (is_checkpoint_of y) (drop 1 j.life.recs))) is b in (λ t w. c.0 t, λ f. c.1 (f judged))
