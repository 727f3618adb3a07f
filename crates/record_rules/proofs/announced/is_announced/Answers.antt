use Rattle.std.proofs.Common.{◌≡◌}
use Rattle.tx_events.specs.declared.event.By.{By}
use Rattle.tx_events.specs.declared.event.Event.TheVariants as events
use Rattle.std.specs.List.{Contains}
use Rattle.record_rules.proofs.Sums.{either_iff}
use Rattle.record_rules.proofs.Keys.{equal_iff}
use Rattle.record_rules.proofs.announced.is_announced.Goals as goal

pub returns : goal.returns
returns c = λ h m a.
    either_iff (c.args.oldest ≡ c.args.base.now.oldest) ((by : By) × Contains h (events.Oldest by c.args.oldest)) c.eq-first.result c.is_announced_id-later.result c.either.result c.either.ensures.some c.either.ensures.none
    (equal_iff c.args.oldest c.args.base.now.oldest c.eq-first.result c.eq-first.ensures)
    (c.is_announced_id-later.ensures h a.ids)
