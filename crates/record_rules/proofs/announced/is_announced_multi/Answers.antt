use Rattle.std.proofs.Common.{◌≡◌}
use Rattle.tx_events.specs.declared.event.By.{By}
use Rattle.tx_events.specs.declared.multi.MultiEvent.TheVariants as multis
use Rattle.std.specs.List.{Contains}
use Rattle.record_rules.proofs.Sums.{either_iff}
use Rattle.record_rules.proofs.announced.is_announced_multi.Goals as goal

pub returns : goal.returns
returns c = λ h m a.
    either_iff ((c.args.multi ≡ c.args.base.now.oldest_multi) × (c.args.offset ≡ c.args.base.now.oldest_offset)) ((by : By) × Contains m (multis.Raise by c.args.multi c.args.offset)) c.is_first_start-first.result c.is_raised-later.result c.either.result c.either.ensures.some c.either.ensures.none
    c.is_first_start-first.ensures (c.is_raised-later.ensures m a.starts)
