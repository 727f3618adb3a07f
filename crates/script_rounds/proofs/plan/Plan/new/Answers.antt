use Rattle.script_rounds.proofs.PlanLemmas.{blank_at_first}
use Rattle.script_rounds.proofs.plan.Plan.new.Goals as goal

pub returns-clause-blank : goal.returns-clause-blank
returns-clause-blank c = blank_at_first _ c.new.ensures.items c.in_ok-no_places.ensures.none
