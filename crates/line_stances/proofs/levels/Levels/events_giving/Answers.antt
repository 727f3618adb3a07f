use Rattle.std.proofs.Common.{ℕ, List, Option, None, sym, ap, take, ◌∙◌}
use Rattle.tx_model.specs.CommandEvents.{level_events}
use Rattle.line_stances.specs.Giving.{giving_all}
use Rattle.line_stances.proofs.GivingAll.{giving_upto}
use Rattle.line_stances.proofs.levels.Levels.events_giving.Goals as goal

pub returns : goal.returns
returns c =
    c.in_ok-events.ensures
    ∙ ap (λ (p : Option ℕ). giving_all c.args.by p (take c.min-count.result c.args.ids.now)) c.last_of.ensures
    ∙ sym (giving_upto c.args.by c.self.inside.named.items c.self.inside.unnamed c.args.ids.now c.min-count.result c.min-count.ensures)
    ∙ ap (λ (l : List (Option ℕ)). level_events c.args.by None l c.args.ids.now) c.self.view_is
