use Rattle.std.proofs.Common.{◌∷◌, Bool, List, length, subst, sym}
use Rattle.std.proofs.lemmas.Result.{IfOk-weaker}
use Rattle.event_rules.specs.Told.{AreToldEvents}
use Rattle.report_law.specs.Steps.{lines_of}
use Rattle.report_law.specs.ReportLines.{ReportLine, event, placed, plain}
use Rattle.report_check.specs.declared.walked.Walked.{Walked}
use Rattle.report_check.specs.Walked.{IsWalked}
use Rattle.report_check.proofs.life.walk_told.Goals as goal

pub walk_events-requires : goal.walk_events-requires
walk_events-requires g c =
    let r = c.requires in
    (r.0, (r.1.0, subst (λ (t : List Bool). AreToldEvents g.j (length (lines_of g.j)) t) (sym c.as_slice-told.ensures.value) r.1.1.told))

pub returns : goal.returns
returns g c =
    let xs : List ReportLine = placed (event g.j) 0 g.j.life.events in
    IfOk-weaker c.behind_plain.result (λ (w : Walked). (ys : List ReportLine) → IsWalked ys c.walk_events.result → IsWalked (plain ∷ ys) w) (IsWalked (plain ∷ xs)) (λ w f. f xs c.walk_events.ensures) c.behind_plain.ensures.walked
