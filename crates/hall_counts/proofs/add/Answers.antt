use Rattle.std.proofs.Common.{ap, ◌∙◌}
use Rattle.hall.specs.Calls.{view}
use Rattle.hall_counts.proofs.Counting.{added_by}
use Rattle.hall_counts.proofs.add.Goals as goal

pub returns-clause-added : goal.returns-clause-added
returns-clause-added g c =
    let e = c.enter-value.ensures.view in
    added_by (view c.args.pass.now) (view c.enter-value.new.pass) (view c.count.new.pass) _ (ap (λ z. z.name) e.2.view_is ∙ ap (λ z. z.name) e.1.1) c.count.ensures.added
