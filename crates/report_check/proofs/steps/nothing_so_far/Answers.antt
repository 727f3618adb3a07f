use Rattle.std.proofs.Common.{[], Bool, List, refl, subst, sym}
use Rattle.event_rules.specs.Told.{AreToldEvents}
use Rattle.report_check.specs.Passing.{lived_by}
use Rattle.report_check.proofs.StepByStep.{none_told}
use Rattle.report_check.proofs.steps.nothing_so_far.Goals as goal

pub returns : goal.returns
returns c = λ j k life. record {
  passed = record {
    sessions = c.in_ok-sessions.ensures (lived_by j []) refl;
    told = subst (λ (t : List Bool). AreToldEvents j 0 t) (sym c.new.ensures.items) (none_told j);
    size = refl;
    trims = refl;
  };
  noted = λ reached. c.in_ok-checkpoints.ensures j life;
}
